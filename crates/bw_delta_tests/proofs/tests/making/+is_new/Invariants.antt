use Rattle.std.proofs.Common.{length}
use Rattle.bw_delta_tests.proofs.tests.making.+is_new.Given as goal

abbrev pub decreases-is_new : goal.decreases-is_new
decreases-is_new l = length l.writes.now
