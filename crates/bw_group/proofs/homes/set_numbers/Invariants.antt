use Rattle.std.proofs.Common.{◌≡◌, length, drop}
use Rattle.bw_group.specs.Homes.{with_number}
use Rattle.bw_group.specs.Points.{entries_of}
use Rattle.bw_group.proofs.homes.set_numbers.Given as goal

abbrev pub invariant-loop-point : goal.invariant-loop-point
invariant-loop-point l = (length l.numbers ≡ length l.fn.numbers) × (with_number l.numbers (entries_of (drop l.point-index l.points)) l.number ≡ with_number l.fn.numbers (entries_of l.points) l.number)
