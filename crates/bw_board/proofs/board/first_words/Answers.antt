use Rattle.std.proofs.Common.{arith, ap, ◌∙◌, ◌≡◌, ◌∷◌, ◌++◌, length, length-append, replicate, ℕ}
use lib.ListN.{length-replicate}
use Rattle.bw_board.proofs.board.first_words.Goals as goal

pub returns : goal.returns
returns c = let e : c.loop-i.i ≡ c.args.records = omega arith in let is = c.loop-i.invariant ∙ ap (λ n. 0 ∷ (c.args.heads.now ++ replicate n 0)) e in
    let n = ap length is in let small = c.loop-i.words.small in let ok = c.loop-i.words.ok in
    record { words = is; fits = omega (arith, length-append c.args.heads.now (replicate c.args.records 0), length-replicate {A = ℕ} c.args.records 0) }
