use Rattle.std.proofs.Common.{◌≡◌, ℕ, ap, sym, ◌∙◌, ◌+◌, min, subst, arith}
use Rattle.bw_board.specs.Working.{HasLeft}
use Rattle.bw_board.proofs.WorkingLemmas.{left_claimed}
use Rattle.bw_board_tests.proofs.tests.claim_one.Goals as goal

pub returns-clause-left : goal.returns-clause-left
returns-clause-left g c =
    let t = c.in-Some.ensures in
    let left = left_claimed c.args.seat.now c.claim.new.seat c.in-Some.span.start c.in-Some.span.end c.requires.posted t.claimed
    (t.end ∙ ap (λ z. min (c.in-Some.span.start + z.piece) z.records) (sym c.requires.board)) in
    let start : c.in-Some.span.start ≡ c.args.number = omega arith in
    let end : c.in-Some.span.end ≡ c.in-Some.span.start + 1 = omega (arith, t.some) in
    subst (λ (n : ℕ). HasLeft c.claim.new.seat n (n + 1)) start (subst (λ (n : ℕ). HasLeft c.claim.new.seat c.in-Some.span.start n) end left)
