use Rattle.bw_steps.proofs.FinishLemmas.{where_refused}
use Rattle.bw_shape.proofs.SweepLemmas.{but_freed, but_none, plain_over, plain_taken}
use Rattle.bw_shape.proofs.sweeps.sweep.Goals as goal

pub returns-in_err-consolidate_all-clause-err : goal.returns-in_err-consolidate_all-clause-err
returns-in_err-consolidate_all-clause-err c = where_refused c.from_residual.result (but_none c.args.tree.now c.consolidate_all.new.tree c.in_err-consolidate_all.ensures.same)

pub returns-in_err-release_all-clause-err : goal.returns-in_err-release_all-clause-err
returns-in_err-release_all-clause-err c = where_refused c.from_residual-in_err-release_all.result (but_freed c.args.tree.now c.consolidate_all.new.tree c.release_all.new.tree c.in_ok-consolidate_all.ensures.same c.in_err-release_all.ensures.freed)

pub returns-in_err-release_all-clause-kept : goal.returns-in_err-release_all-clause-kept
returns-in_err-release_all-clause-kept c = plain_taken c.args.tree.now c.consolidate_all.new.tree c.release_all.new.tree c.in_ok-consolidate_all.ensures.kept c.in_err-release_all.ensures.freed

pub returns-clause-kept : goal.returns-clause-kept
returns-clause-kept c =
    plain_over c.args.tree.now c.release_all.new.tree c.restart.new.self (plain_taken c.args.tree.now c.consolidate_all.new.tree c.release_all.new.tree c.in_ok-consolidate_all.ensures.kept c.in_ok-release_all.ensures.freed) c.restart.ensures.value
