use Rattle.std.proofs.Common.{ap, sym, ◌∙◌, ◌+◌, min}
use Rattle.bw_board.proofs.WorkingLemmas.{left_claimed}
use Rattle.bw_board_tests.proofs.tests.storms.post_all.Goals as goal

pub post_piece-requires-clause-left : goal.post_piece-requires-clause-left
post_piece-requires-clause-left g c = let t = c.in-Some.ensures in
    left_claimed c.loop.seat c.claim.new.seat c.in-Some.span.start c.in-Some.span.end c.loop.invariant.posted t.claimed
    (t.end ∙ ap (λ z. min (c.in-Some.span.start + z.piece) z.records) (sym c.loop.invariant.board))
