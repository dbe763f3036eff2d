use Rattle.std.proofs.Common.{◌≡◌, drop}
use Rattle.std.specs.FinMap.{find}
use Rattle.bw_key.specs.Order.{key_cmp}
use Rattle.bw_model.proofs.sorted.value_at.Given as goal

abbrev pub invariant-loop-pair : goal.invariant-loop-pair
invariant-loop-pair l = find key_cmp l.key (drop l.pair-index l.pairs) ≡ find key_cmp l.key l.pairs
