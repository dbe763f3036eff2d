use Rattle.std.proofs.Common.{◌-◌, length}
use Rattle.bw_shape_tests.proofs.tests.leaves.+leaves_from.Given as goal

abbrev pub decreases-leaves_from : goal.decreases-leaves_from
decreases-leaves_from g l = length l.ends.now - l.place
