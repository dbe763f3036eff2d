use Rattle.std.proofs.Common.{◌≡◌, None}
use Rattle.bw_shape_tests.proofs.tests.naming.halve_all.Given as goal

abbrev pub invariant-halves : goal.invariant-halves
invariant-halves g l = l.tree.staged ≡ None
