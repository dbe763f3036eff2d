use Rattle.std.proofs.Common.{◌-◌}
use Rattle.bw_tree_tests.proofs.tests.routes.+leaves_from.Given as goal

abbrev pub decreases-leaves_from : goal.decreases-leaves_from
decreases-leaves_from g l = 300 - l.place
