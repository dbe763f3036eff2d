use Rattle.std.proofs.Common.{◌-◌, take, drop, get_or}
use Rattle.bw_group.specs.declared.points.Point.{Point}
use Rattle.bw_group.proofs.PointGroups.{IsOfKey}
use Rattle.bw_group.proofs.grouping.group_end.Given as goal

abbrev pub invariant-loop-end : goal.invariant-loop-end
invariant-loop-end l = (d : Point) → IsOfKey (get_or l.points l.start d).key.now (take (l.end - l.start) (drop l.start l.points))
