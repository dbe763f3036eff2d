use Rattle.std.proofs.Common.{◌≡◌, []}
use Rattle.std.specs.Prelude.{reverse}
use Rattle.bw_tree.specs.Making.{AreAbutting}
use Rattle.bw_batch_bench.proofs.leaves.leaves_for.Given as goal

abbrev pub invariant-loop-place : goal.invariant-loop-place
invariant-loop-place l = AreAbutting l.place l.low (reverse l.leaves.items) × (l.place ≡ 0 → l.low ≡ [])

abbrev pub decreases-loop-place : goal.decreases-loop-place
decreases-loop-place l = l.place
