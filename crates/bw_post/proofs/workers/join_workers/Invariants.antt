use Rattle.std.proofs.Common.{◌≡◌, ◌+◌}
use Rattle.std.specs.List.{AllByRecursion}
use Rattle.bw_core.specs.World.{total}
use Rattle.bw_post.specs.Posting.{HasFinished, width_of}
use Rattle.bw_post.proofs.workers.join_workers.Given as goal

abbrev pub invariant-loop-worker : goal.invariant-loop-worker
invariant-loop-worker l = record {
  finished : HasFinished l.tree l.homes.pages l.board l.whole;
  others : AllByRecursion (HasFinished l.tree l.homes.pages l.board) l.worker-iterator.rest.items;
  width : width_of l.whole + total width_of l.worker-iterator.rest.items ≡ total width_of l.fn.workers.items;
}
