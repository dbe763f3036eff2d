use Rattle.std.proofs.Common.{◌<◌, ◌≤◌, ◌-◌, length}
use Rattle.bw_level.specs.Searches.{IsFromPlace}
use Rattle.bw_level.proofs.target.Target.stretch.Given as goal

abbrev pub invariant-loop-from : goal.invariant-loop-from
invariant-loop-from l = record {
  within : l.last < length l.children;
  moves : 1 ≤ l.step;
  from : IsFromPlace l.self l.children l.last;
}

abbrev pub decreases-loop-from : goal.decreases-loop-from
decreases-loop-from l = length l.children - l.last
