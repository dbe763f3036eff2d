use Rattle.std.proofs.Common.{◌≡◌, ◌++◌, length, take}
use Rattle.bw_chain.specs.Records.{with_link}
use Rattle.bw_chain.proofs.entry_records.append_each.Given as goal

abbrev pub invariant-loop-delta : goal.invariant-loop-delta
invariant-loop-delta l = record {
  records : l.arena.records ++ with_link l.link l.delta-iterator.rest.items ≡ l.fn.arena.records ++ with_link l.link l.fn.deltas.items;
  others : take (length l.fn.arena.records) l.arena.records ≡ l.fn.arena.records;
}
