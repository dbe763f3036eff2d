use Rattle.bw_tree.specs.Consolidation.{IsRebased}
use Rattle.bw_tree.proofs.NarrowLemmas.{narrowed_is}
use Rattle.bw_tree.proofs.tree.Tree.consolidate.Goals as goal

pub returns-then-branch-clause-ok : goal.returns-then-branch-clause-ok
returns-then-branch-clause-ok c =
    let rebased : IsRebased c.args.self.now c.consolidate_in_place.new.self c.args.page = rw c.if-branch.true at c.in_ok-consolidate_in_place.ensures.ok in
    narrowed_is c.args.self.now c.consolidate_in_place.new.self c.args.page rebased c.requires.leaf c.requires.none c.know_levels.ensures.lawful c.know_levels.ensures.distinct (c.know_records.ensures.bare c.args.page rebased.plain)
