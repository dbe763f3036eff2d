use Rattle.std.proofs.Common.{ℕ, ◌<◌}
use Rattle.std.specs.Prelude.{slice_index}
use Rattle.bw_chain.specs.Removed.{IsRemovedInto}
use Rattle.bw_chain.proofs.chains.Chains.is_left.Given as goal

abbrev pub invariant-loop-number : goal.invariant-loop-number
invariant-loop-number l = (k : ℕ) → k < l.number-index → IsRemovedInto l.self.bases l.page (slice_index l.number-items k) → ⊥
