use Rattle.std.proofs.Common.{ap, sym, ◌∙◌, ◌+◌, min}
use Rattle.bw_board.proofs.WorkingLemmas.{left_claimed}
use Rattle.bw_post_tests.proofs.tests.all_words.post_next.Goals as goal

pub post_piece-requires-clause-left : goal.post_piece-requires-clause-left
post_piece-requires-clause-left c = let t = c.in-Some.ensures in
    left_claimed c.args.seat.now c.claim.new.seat c.in-Some.span.start c.in-Some.span.end c.requires.posted t.claimed
    (t.end ∙ ap (λ z. min (c.in-Some.span.start + z.piece) z.records) (sym c.requires.board))
