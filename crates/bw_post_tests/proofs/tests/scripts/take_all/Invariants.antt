use Rattle.std.proofs.Common.{◌≡◌, None}
use Rattle.bw_post_tests.proofs.tests.scripts.take_all.Given as goal

abbrev pub invariant-loop-step : goal.invariant-loop-step
invariant-loop-step g l = l.tree.staged ≡ None
