use Rattle.std.proofs.Common.{◌≡◌, []}
use Rattle.std.specs.Prelude.{reverse}
use Rattle.bw_tree.specs.Making.{AreAbutting}
use Rattle.bw_growth_tests.proofs.tests.trees.leaves_of.Given as goal

abbrev pub invariant-loop-place : goal.invariant-loop-place
invariant-loop-place g l = record {
  abutting : AreAbutting l.place l.low (reverse l.leaves.items);
  least : l.place ≡ 0 → l.low ≡ [];
}

abbrev pub decreases-loop-place : goal.decreases-loop-place
decreases-loop-place g l = l.place
