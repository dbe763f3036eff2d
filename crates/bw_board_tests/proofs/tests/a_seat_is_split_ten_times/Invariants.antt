use Rattle.std.proofs.Common.{◌≡◌}
use Rattle.bw_board_tests.proofs.tests.a_seat_is_split_ten_times.Given as goal

abbrev pub invariant-loop-time : goal.invariant-loop-time
invariant-loop-time g l = l.seat.board ≡ l.board
