use Rattle.std.proofs.Common.{◌≡◌, ◌+◌, ◌<◌, ◌≤◌, ◌^◌, ℕ}
use Rattle.bw_core.specs.World.{owns}
use Rattle.bw_board.specs.Plays.{lost_in}
use Rattle.bw_board.specs.Working.{HasLeft}
use Rattle.bw_post.specs.Posting.{ArePostedHome}
use Rattle.bw_post.proofs.workers.post_piece.Given as goal

abbrev pub invariant-loop-record : goal.invariant-loop-record
invariant-loop-record g l = record {
  board : l.seat.board ≡ l.board;
  width : l.seat.book.width ≡ l.fn.seat.book.width;
  swaps : l.seat.book.swaps ≡ l.fn.seat.book.swaps;
  owned : l.seat.book.owned ≡ l.fn.seat.book.owned;
  once : (r : ℕ) → owns r l.seat.book ≤ 1;
  left : HasLeft l.seat l.record l.fn.piece.end;
  homes : ArePostedHome l.tree l.homes.pages l.seat;
  lost : lost_in l.fn.seat.book.posted + l.lost ≡ lost_in l.seat.book.posted;
  few : lost_in l.seat.book.posted < 2 ^ 64;
}
