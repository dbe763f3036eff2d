use Rattle.std.proofs.Common.{◌≡◌, ◌<◌, ◌-◌, length, vec_len}
use Rattle.std.specs.List.{AllByRecursion}
use Rattle.bw_core.specs.World.{total}
use Rattle.bw_post.specs.Posting.{IsNew, width_of}
use Rattle.bw_post.proofs.workers.seat_workers.Given as goal

abbrev pub invariant-loop-workers : goal.invariant-loop-workers
invariant-loop-workers l = record {
  some : 0 < length l.workers.items;
  new : AllByRecursion (IsNew l.board) l.workers.items;
  width : total width_of l.workers.items ≡ l.fn.seat.book.width;
}

abbrev pub decreases-loop-workers : goal.decreases-loop-workers
decreases-loop-workers l = l.count - vec_len l.workers
