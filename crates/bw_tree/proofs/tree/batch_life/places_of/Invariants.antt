use Rattle.std.proofs.Common.{◌<◌, length, take}
use Rattle.std.specs.List.{AllByRecursion}
use Rattle.bw_tree.proofs.PlaceLists.{AreWritesAt}
use Rattle.bw_tree.proofs.tree.batch_life.places_of.Given as goal

abbrev pub invariant-loop-place : goal.invariant-loop-place
invariant-loop-place l = record {
  there : AllByRecursion (λ p. p < length l.ops) l.places.items;
  are : AreWritesAt l.ops (take l.place l.ops) l.places.items;
}
