use Rattle.std.proofs.Common.{◌≡◌, take}
use Rattle.bw_model.proofs.sorted.packed.Given as goal

abbrev pub invariant-loop-pair : goal.invariant-loop-pair
invariant-loop-pair l = l.copy ≡ take l.pair-index l.pairs
