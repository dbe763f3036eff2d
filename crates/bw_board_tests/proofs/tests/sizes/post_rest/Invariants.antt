use Rattle.std.proofs.Common.{◌≡◌}
use Rattle.bw_board.specs.Working.{HasPostedAll}
use Rattle.bw_board_tests.proofs.tests.sizes.post_rest.Given as goal

abbrev pub invariant-loop : goal.invariant-loop
invariant-loop g l = record { board : l.seat.board ≡ l.board; width : l.seat.book.width ≡ l.fn.seat.book.width; posted : HasPostedAll l.seat }
