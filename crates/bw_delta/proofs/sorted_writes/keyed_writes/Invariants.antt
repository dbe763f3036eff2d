use Rattle.std.proofs.Common.{◌≡◌, map, take}
use Rattle.bw_delta.specs.History.{pointed_to}
use Rattle.bw_delta.proofs.sorted_writes.keyed_writes.Given as goal

abbrev pub invariant-loop-write : goal.invariant-loop-write
invariant-loop-write l = map (λ k. k.write.now) l.keyed.items ≡ pointed_to (take l.write-index l.writes)
