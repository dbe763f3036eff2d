use Rattle.std.proofs.Common.{◌-◌, ◌≤◌, length}
use Rattle.bw_answer.proofs.batch_reader.BatchReader.prefetch_runs.Given as goal

abbrev pub invariant-loop-end : goal.invariant-loop-end
invariant-loop-end l = l.start ≤ l.end

abbrev pub decreases-loop-end : goal.decreases-loop-end
decreases-loop-end l = length l.points - l.end
