use Rattle.std.proofs.Common.{◌≡◌, None}
use Rattle.bw_shape_tests.proofs.tests.naming.are_named.Given as goal

abbrev pub invariant-loop-page : goal.invariant-loop-page
invariant-loop-page g l = l.tree.staged ≡ None
