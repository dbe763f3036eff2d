use Rattle.std.proofs.Common.{◌≡◌, ◌-◌, take, drop}
use Rattle.std.specs.List.{AllByRecursion}
use Rattle.bw_group.specs.Homes.{number_of}
use Rattle.bw_group.specs.Points.{entries_of}
use Rattle.bw_group.proofs.homes.Homes.run_end.Given as goal

abbrev pub invariant-loop-end : goal.invariant-loop-end
invariant-loop-end l = AllByRecursion (λ e. number_of l.self e.1 ≡ l.number) (entries_of (take (l.end - l.start) (drop l.start l.points)))
