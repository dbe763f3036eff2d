use Rattle.std.proofs.Common.{◌≡◌, take}
use Rattle.bw_batch.specs.Lens.{leaf_pairs}
use Rattle.bw_batch.proofs.key_counts.count_leaf_pairs.Given as goal

abbrev pub invariant-loop-page : goal.invariant-loop-page
invariant-loop-page l = l.count ≡ leaf_pairs (take l.page-index l.pages)
