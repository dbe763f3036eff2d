use Rattle.std.proofs.Common.{◌≤◌, length, take}
use Rattle.bw_shape.specs.Tidying.{AreAmong}
use Rattle.bw_shape.proofs.due.Due.with_leaves.Given as goal

abbrev pub invariant-loop-leaf : goal.invariant-loop-leaf
invariant-loop-leaf l = record {
  within : l.start ≤ length l.fn.self.pages;
  among : AreAmong (take l.start l.fn.self.pages) l.all.items;
}
