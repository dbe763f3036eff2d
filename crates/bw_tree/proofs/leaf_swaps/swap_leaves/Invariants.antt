use Rattle.std.proofs.Common.{◌≡◌}
use Rattle.bw_tree.proofs.FoldedLemmas.{AreLeavesSwapped}
use Rattle.bw_tree.proofs.leaf_swaps.swap_leaves.Given as goal

abbrev pub invariant-loop-place : goal.invariant-loop-place
invariant-loop-place l = AreLeavesSwapped l.fn.chains.bases l.chains.bases l.fn.folded l.folded l.place × (l.chains.records ≡ l.fn.chains.records)
