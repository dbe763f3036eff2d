use Rattle.bw_steps.specs.Releasing.{AreFreed, IsLeftToFree}
use Rattle.bw_steps.specs.Releasing.{taken_count}
use Rattle.bw_steps.proofs.release_runs.release_run.Given as goal

abbrev pub invariant-loop-left : goal.invariant-loop-left
invariant-loop-left l = record {
  freed : AreFreed l.fn.tree l.tree;
  none : IsLeftToFree l.fn.tree l.tree l.fn.next l.next;
}

abbrev pub decreases-loop-left : goal.decreases-loop-left
decreases-loop-left l = taken_count l.tree.slots
