use Rattle.std.proofs.Common.{◌≡◌, ◌-◌, length}
use Rattle.bw_group.proofs.FoundHomes.{AreFoundTo}
use Rattle.bw_group.proofs.homes.find_homes.Given as goal

abbrev pub invariant-loop-start : goal.invariant-loop-start
invariant-loop-start g l = record {
  found : AreFoundTo l.tree l.batch.ops l.points.items l.start l.pages.items l.numbers.items;
  tree : l.routes.tree ≡ l.tree;
}

abbrev pub decreases-loop-start : goal.decreases-loop-start
decreases-loop-start g l = length l.points.items - l.start
