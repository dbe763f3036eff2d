use Rattle.std.proofs.Common.{length}
use Rattle.bw_answer.proofs.shared_leaves.take_starts.Given as goal

abbrev pub decreases-loop-start : goal.decreases-loop-start
decreases-loop-start l = length l.starts.items
