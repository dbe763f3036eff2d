use Rattle.std.proofs.Common.{◌≡◌, ◌∙◌, length, sym, ap, subst, arith}
use Rattle.std.proofs.lemmas.List.{length-map}
use Rattle.std.specs.Option.{option_copied}
use Rattle.bw_delta.specs.History.{HasDistinctStamps}
use Rattle.bw_level.specs.Levels.{row}
use Rattle.bw_level.specs.Slots.{slot_at}
use Rattle.bw_look.specs.View.{TreeView}
use Rattle.bw_look.proofs.ContentsLemmas.{if_same}
use Rattle.bw_look.proofs.LeafRangeLemmas.{page_distinct}
use Rattle.bw_look.proofs.ShapeLemmas.{leaf_pairs_on, parts_shape}
use Rattle.bw_look.proofs.look.Look.leaf_shape.Goals as goal

pub pairs_as_of-requires : goal.pairs_as_of-requires
pairs_as_of-requires c =
    let tree = c.args.self.now in
    subst HasDistinctStamps (sym c.in_ok-leaf.ensures.leaf.writes) (page_distinct tree.slots (row tree.levels 0) c.args.page c.requires c.know_levels.ensures.distinct)

pub returns : goal.returns
returns c =
    let tree = c.args.self.now in
    let is = c.in_ok-leaf.ensures.leaf in
    let count : c.len-2.result ≡ length c.in_ok-leaf.leaf.writes.items = omega (arith, c.len-2.ensures, c.in_ok-leaf.leaf.writes.ok) in
    if_same c.shape_from.result _ _
    (parts_shape tree 0 c.args.page c.low-low.result.now (option_copied c.in_ok-leaf.leaf.end) c.len.result c.len-2.result (c.low-low.ensures.value ∙ is.low) is.end
    (c.len.ensures ∙ leaf_pairs_on tree tree.root c.know_levels.ensures.lawful c.know_levels.ensures.distinct c.args.page c.self.inside.next c.low-low.result.now (option_copied c.in_ok-leaf.leaf.end) c.in_ok-pairs.pairs c.requires
    (ap (λ (v : TreeView). v.next) c.self.view_is) (c.low-low.ensures.value ∙ is.low) is.end (c.in_ok-pairs.ensures (slot_at tree.slots c.args.page) is))
    (count ∙ sym (length-map c.in_ok-leaf.leaf.writes.items (λ w. w.now)) ∙ ap length is.writes))
    c.shape_from.ensures
