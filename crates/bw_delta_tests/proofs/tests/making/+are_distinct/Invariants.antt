use Rattle.std.proofs.Common.{length}
use Rattle.bw_delta_tests.proofs.tests.making.+are_distinct.Given as goal

abbrev pub decreases-are_distinct : goal.decreases-are_distinct
decreases-are_distinct l = length l.writes.now
