use Rattle.std.proofs.Common.{◌≡◌, None}
use Rattle.bw_shape_tests.proofs.tests.naming.tidy_by_steps.Given as goal

abbrev pub invariant-loop-level : goal.invariant-loop-level
invariant-loop-level g l = l.tree.staged ≡ None
