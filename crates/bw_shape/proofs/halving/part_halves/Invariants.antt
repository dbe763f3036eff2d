use Rattle.bw_shape.specs.Limits.{AreWithinBut}
use Rattle.bw_shape.specs.Tidying.{HoldsAll}
use Rattle.bw_shape.specs.Visits.{StandBefore, work_left}
use Rattle.bw_shape.proofs.halving.part_halves.Given as goal

abbrev pub invariant-loop-page : goal.invariant-loop-page
invariant-loop-page l = record {
  holds : HoldsAll l.fn.tree l.tree;
  within : AreWithinBut l.limits l.tree l.due.pages;
  stand : StandBefore l.tree l.level l.others l.due.pages;
}

abbrev pub decreases-loop-page : goal.decreases-loop-page
decreases-loop-page l = work_left l.tree l.due
