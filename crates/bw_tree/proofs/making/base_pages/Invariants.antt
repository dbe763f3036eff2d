use Rattle.std.proofs.Common.{◌≡◌, map}
use Rattle.bw_tree.specs.Making.{base_of_leaf}
use Rattle.bw_tree.proofs.making.base_pages.Given as goal

abbrev pub invariant-loop-leaf : goal.invariant-loop-leaf
invariant-loop-leaf l = l.bases.items ≡ map base_of_leaf l.yielded
