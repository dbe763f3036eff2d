use Rattle.std.proofs.Common.{◌≡◌, map, take}
use Rattle.bw_delta.specs.History.{pointed_to}
use Rattle.bw_delta.proofs.sorted_writes.writes_in.Given as goal

abbrev pub invariant-loop-each : goal.invariant-loop-each
invariant-loop-each l = pointed_to l.writes.items ≡ map (λ k. k.write.now) (take l.each-index l.keyed)
