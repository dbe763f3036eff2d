use Rattle.std.proofs.Common.{◌≡◌, ◌≤◌, ℕ}
use Rattle.bw_core.specs.World.{owns}
use Rattle.bw_board.specs.Working.{HasLeft}
use Rattle.bw_post_tests.proofs.tests.all_words.post_piece.Given as goal

abbrev pub invariant-loop-rec : goal.invariant-loop-rec
invariant-loop-rec l = record { board : l.seat.board ≡ l.board; width : l.seat.book.width ≡ l.fn.seat.book.width; once : (r : ℕ) → owns r l.seat.book ≤ 1; left : HasLeft l.seat l.rec l.to }
