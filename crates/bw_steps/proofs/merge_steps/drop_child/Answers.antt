use Rattle.std.proofs.Common.{suc, arith}
use Rattle.std.proofs.lemmas.Result.{on_ok_weaker}
use Rattle.bw_steps.proofs.MergeStepLemmas.{lost_over}
use Rattle.bw_steps.proofs.merge_steps.drop_child.Goals as goal

pub rebase-requires-clause-page : goal.rebase-requires-clause-page
rebase-requires-clause-page c = record {
  in_levels = record { level = suc c.requires.drops.level; within = c.requires.drops.within; in_level = c.requires.drops.in_level };
  raised = omega arith;
}

pub returns-clause-ok : goal.returns-clause-ok
returns-clause-ok c =
    on_ok_weaker c.unset_child.result
    (lost_over c.args.tree.now c.rebase.new.tree c.unset_child.new.self c.args.parent c.args.sep c.in_ok-rebase.ensures.ok)
    c.unset_child.ensures.ok
