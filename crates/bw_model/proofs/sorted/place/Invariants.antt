use Rattle.std.proofs.Common.{◌≡◌, ◌+◌, drop}
use Rattle.bw_model.specs.Sorted.{place_of}
use Rattle.bw_model.proofs.sorted.place.Given as goal

abbrev pub invariant-loop-pair : goal.invariant-loop-pair
invariant-loop-pair l = record {
  passed : l.at ≡ l.pair-index;
  rest : l.at + place_of l.key (drop l.pair-index l.pairs) ≡ place_of l.key l.pairs;
}
