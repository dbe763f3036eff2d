use Rattle.std.proofs.Common.{subst}
use Rattle.bw_steps.specs.Releasing.{IsReleaseStep}
use Rattle.bw_steps.specs.declared.steps.Did.{Did}
use Rattle.bw_steps.proofs.FreedLemmas.{fewer_left, left_done, step_freed}
use Rattle.bw_steps.proofs.release_runs.release_next.Goals as goal

pub returns-in-Done-clause-freed : goal.returns-in-Done-clause-freed
returns-in-Done-clause-freed c = step_freed c.args.tree.now c.release.new.tree c.args.page c.in_ok-release.field-0 c.requires c.in_ok-release.ensures.ok

pub returns-in-Done-clause-next : goal.returns-in-Done-clause-next
returns-in-Done-clause-next c =
    left_done c.args.tree.now c.release.new.tree c.args.page c.removed_into-left.result c.removed_into-left.ensures
    (subst (λ (d : Did). IsReleaseStep c.args.tree.now c.release.new.tree c.args.page d) c.in-Done.is c.in_ok-release.ensures.ok)

pub returns-in-Done-clause-fewer : goal.returns-in-Done-clause-fewer
returns-in-Done-clause-fewer c =
    fewer_left c.args.tree.now c.release.new.tree c.args.page c.removed_into-left.result
    (subst (λ (d : Did). IsReleaseStep c.args.tree.now c.release.new.tree c.args.page d) c.in-Done.is c.in_ok-release.ensures.ok)
