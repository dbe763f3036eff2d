use Rattle.std.proofs.Common.{◌≡◌, None, length}
use Rattle.bw_shape.specs.Limits.{AreWithinBut}
use Rattle.bw_shape.specs.Tidying.{HoldsAll}
use Rattle.bw_shape.proofs.tidying.visit_level.Given as goal

abbrev pub invariant-loop-page : goal.invariant-loop-page
invariant-loop-page l = record {
  holds : HoldsAll l.fn.tree l.tree;
  within : AreWithinBut l.limits l.tree l.due.pages;
  finished : l.due.unfinished ≡ None;
}

abbrev pub decreases-loop-page : goal.decreases-loop-page
decreases-loop-page l = length l.due.pages
