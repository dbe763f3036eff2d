use Rattle.std.proofs.Common.{refl, sym, ◌∙◌, subst}
use Rattle.std.specs.Option.{option_copied}
use Rattle.bw_delta.specs.History.{HasDistinctStamps}
use Rattle.bw_level.specs.Levels.{row}
use Rattle.bw_level.specs.Slots.{slot_at}
use Rattle.bw_look.specs.View.{TreeView}
use Rattle.bw_look.proofs.ConsolidatedLeaves.{AreParts, consolidated_parts, is_leaf_as_of, parts_rules}
use Rattle.bw_look.proofs.LeafRangeLemmas.{page_distinct}
use Rattle.bw_look.proofs.look.Look.leaf_as_of.Goals as goal

pub pairs_as_of-requires : goal.pairs_as_of-requires
pairs_as_of-requires c =
    let tree = c.args.self.now in
    subst HasDistinctStamps (sym c.in_ok-leaf.ensures.leaf.writes) (page_distinct tree.slots (row tree.levels 0) c.args.page c.requires c.know_levels.ensures.distinct)

pub from_pairs-requires : goal.from_pairs-requires
from_pairs-requires c =
    let tree : TreeView = record c.args.self.now { next = c.args.stamp } in
    let is = c.in_ok-leaf.ensures.leaf in
    parts_rules tree tree.root c.know_levels.ensures.lawful c.args.page c.in_ok-leaf.leaf.side c.in_ok-copy.field-0 c.in_ok-copy_end.field-0 c.in_ok-pairs.pairs c.requires is.side
    (consolidated_parts tree tree.root c.know_levels.ensures.lawful c.know_levels.ensures.distinct c.args.page c.args.stamp c.low-low.result.now (option_copied c.in_ok-leaf.leaf.end) c.in_ok-copy.field-0 c.in_ok-copy_end.field-0 c.in_ok-pairs.pairs c.requires
    refl (c.low-low.ensures.value ∙ is.low) is.end c.in_ok-copy.ensures.ok c.in_ok-copy_end.ensures (c.in_ok-pairs.ensures (slot_at tree.slots c.args.page) is))

pub returns : goal.returns
returns c =
    let tree : TreeView = record c.args.self.now { next = c.args.stamp } in
    let is = c.in_ok-leaf.ensures.leaf in
    let parts : AreParts tree c.args.page c.in_ok-copy.field-0 c.in_ok-copy_end.field-0 c.in_ok-pairs.pairs =
    consolidated_parts tree tree.root c.know_levels.ensures.lawful c.know_levels.ensures.distinct c.args.page c.args.stamp c.low-low.result.now (option_copied c.in_ok-leaf.leaf.end) c.in_ok-copy.field-0 c.in_ok-copy_end.field-0 c.in_ok-pairs.pairs c.requires
    refl (c.low-low.ensures.value ∙ is.low) is.end c.in_ok-copy.ensures.ok c.in_ok-copy_end.ensures (c.in_ok-pairs.ensures (slot_at tree.slots c.args.page) is) in
    is_leaf_as_of tree c.args.page c.from_pairs.result c.in_ok-copy.field-0 c.in_ok-copy_end.field-0 c.in_ok-pairs.pairs parts
    c.from_pairs.ensures.low c.from_pairs.ensures.high (c.from_pairs.ensures.side ∙ is.side) c.from_pairs.ensures.pairs
