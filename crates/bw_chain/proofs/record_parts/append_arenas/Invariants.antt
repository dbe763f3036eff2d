use Rattle.std.proofs.Common.{◌≡◌, ◌++◌, ◌≤◌, ◌^◌, flat_map, length, take}
use Rattle.bw_chain.proofs.record_parts.append_arenas.Given as goal

abbrev pub invariant-loop-more : goal.invariant-loop-more
invariant-loop-more l = record {
  records : l.arena.records ++ flat_map (λ arena. arena.records) l.more-iterator.rest.items ≡ l.fn.arena.records ++ flat_map (λ arena. arena.records) l.fn.made.items;
  others : take (length l.fn.arena.records) l.arena.records ≡ l.fn.arena.records;
  few : length l.arena.records ≤ 2 ^ 32;
}
