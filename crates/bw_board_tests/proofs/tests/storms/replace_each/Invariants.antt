use Rattle.std.proofs.Common.{◌≡◌, ◌≤◌, ℕ}
use Rattle.bw_core.specs.World.{tries_in}
use Rattle.bw_board.specs.Working.{SameWork}
use Rattle.bw_board_tests.proofs.tests.storms.replace_each.Given as goal

abbrev pub invariant-loop-page : goal.invariant-loop-page
invariant-loop-page g l = record { work : SameWork l.fn.seat l.seat; untried : (q : ℕ) → l.page ≤ q → tries_in q l.seat.book.swaps ≡ 0 }
