use Rattle.std.proofs.Common.{◌-◌, take, drop, T}
use Rattle.std.specs.List.{AllByRecursion}
use Rattle.std.specs.Option.{option_copied}
use Rattle.bw_model.specs.Contents.{is_below_end}
use Rattle.bw_group.specs.Points.{entries_of}
use Rattle.bw_group.proofs.homes.run_end.Given as goal

abbrev pub invariant-loop-place : goal.invariant-loop-place
invariant-loop-place l = AllByRecursion (λ e. T (is_below_end (option_copied l.end) e.0)) (entries_of (take (l.place - l.start) (drop l.start l.points)))
