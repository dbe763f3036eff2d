use Rattle.bw_board.specs.Working.{SameWork}
use Rattle.bw_board_tests.proofs.tests.storms.peek_at_all.Given as goal

abbrev pub invariant-loop-page : goal.invariant-loop-page
invariant-loop-page g l = SameWork l.fn.seat l.seat
