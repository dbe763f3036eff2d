use Rattle.std.proofs.Common.{◌≡◌, ◌++◌}
use Rattle.bw_delta.proofs.consolidation.packed.Given as goal

abbrev pub invariant-loop-key : goal.invariant-loop-key
invariant-loop-key l = l.pairs ++ l.key-iterator ≡ l.fn.values.entries
