use Rattle.std.proofs.Common.{◌≡◌, length}
use Rattle.bw_group.proofs.homes.no_numbers.Given as goal

abbrev pub invariant-loop : goal.invariant-loop
invariant-loop l = length l.numbers.items ≡ l.counter
