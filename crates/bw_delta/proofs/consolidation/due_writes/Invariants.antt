use Rattle.std.proofs.Common.{◌≡◌, ◌++◌, drop, filter, map}
use Rattle.std.specs.Option.{option_copied}
use Rattle.bw_delta.specs.History.{pointed_to}
use Rattle.bw_delta.specs.Merging.{is_due}
use Rattle.bw_delta.proofs.consolidation.due_writes.Given as goal

abbrev pub invariant-loop-write : goal.invariant-loop-write
invariant-loop-write l =
    map (λ k. k.write.now) l.due.items ++ filter (is_due l.low (option_copied l.high) l.stamp) (pointed_to (drop l.write-index l.writes)) ≡ filter (is_due l.low (option_copied l.high) l.stamp) (pointed_to l.writes)
