use Rattle.std.proofs.Common.{sym, subst, ◌∙◌}
use Rattle.bw_level.specs.Children.{MayDropChild}
use Rattle.bw_level.specs.Slots.{slot_at}
use Rattle.bw_tree.specs.TreeMerges.{HasLostChild}
use Rattle.bw_look.proofs.RemovedLemmas.{gone_of}
use Rattle.bw_steps.proofs.MergeStepLemmas.{low_same, may_drop}
use Rattle.bw_steps.proofs.merge_steps.finish_absorb.Goals as goal

pub drop_child-requires-clause-drops : goal.drop_child-requires-clause-drops
drop_child-requires-clause-drops c =
    let tree = c.args.tree.now in
    let gone = gone_of (slot_at tree.slots c.args.page) c.removed.result c.in-Some-removed.removed c.removed.ensures c.in-Some-removed.is in
    subst (MayDropChild tree.slots tree.levels c.in-Some.parent)
    (low_same tree c.args.page c.in-Some.parent c.in-Some.ensures c.in-Some-removed.removed.now gone ∙ sym c.in_ok-sep.ensures.ok)
    (may_drop tree tree.root c.know_levels.ensures.lawful c.know_entries.ensures c.args.page c.in-Some.parent c.in-Some.ensures)

pub returns-clause-ok : goal.returns-clause-ok
returns-clause-ok c =
    let tree = c.args.tree.now in
    let gone = gone_of (slot_at tree.slots c.args.page) c.removed.result c.in-Some-removed.removed c.removed.ensures c.in-Some-removed.is in (
      c.in-Some.parent,
      record {
        was = c.in-Some.ensures;
        lost = subst (HasLostChild tree c.drop_child.new.tree c.in-Some.parent)
            (c.in_ok-sep.ensures.ok ∙ sym (low_same tree c.args.page c.in-Some.parent c.in-Some.ensures c.in-Some-removed.removed.now gone))
            c.in_ok-drop_child.ensures.ok;
      },
    )
