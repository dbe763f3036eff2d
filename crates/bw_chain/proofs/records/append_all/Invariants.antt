use Rattle.std.proofs.Common.{◌≡◌, ◌++◌, ◌≤◌, ◌^◌, length, take}
use Rattle.bw_chain.specs.PlacedWrites.{writes_at_places}
use Rattle.bw_chain.specs.Records.{unlinked}
use Rattle.bw_chain.proofs.records.append_all.Given as goal

abbrev pub invariant-loop-at : goal.invariant-loop-at
invariant-loop-at l = record {
  records : l.arena.records ≡ l.fn.arena.records ++ unlinked (writes_at_places l.base l.ops (take l.at l.places));
  few : length l.arena.records ≤ 2 ^ 32;
}
