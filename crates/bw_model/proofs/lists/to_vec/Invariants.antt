use Rattle.std.proofs.Common.{◌≡◌, ◌++◌}
use Rattle.bw_model.proofs.lists.to_vec.Given as goal

abbrev pub invariant-loop-key : goal.invariant-loop-key
invariant-loop-key l = l.list.items ++ l.key-iterator ≡ l.pairs
