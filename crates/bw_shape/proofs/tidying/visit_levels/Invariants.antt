use Rattle.std.proofs.Common.{◌≡◌, ◌-◌, ◌^◌, None, []}
use Rattle.bw_shape.specs.Limits.{AreWithinBut}
use Rattle.bw_shape.specs.Tidying.{HoldsAll}
use Rattle.bw_shape.proofs.tidying.visit_levels.Given as goal

abbrev pub invariant-loop-next : goal.invariant-loop-next
invariant-loop-next l = record {
  holds : HoldsAll l.fn.tree l.tree;
  within : AreWithinBut l.limits l.tree l.due.pages;
  finished : l.due.unfinished ≡ None;
  none : l.due.pages ≡ [];
}

abbrev pub decreases-loop-next : goal.decreases-loop-next
decreases-loop-next l = 2 ^ 32 - l.level
