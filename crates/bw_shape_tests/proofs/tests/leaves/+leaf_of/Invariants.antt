use Rattle.std.proofs.Common.{◌-◌}
use Rattle.bw_shape_tests.proofs.tests.leaves.+leaf_of.Given as goal

abbrev pub decreases-leaf_of : goal.decreases-leaf_of
decreases-leaf_of g l = l.to - l.from
