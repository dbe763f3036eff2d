use Rattle.std.proofs.Common.{◌∙◌, sym, arith}
use Rattle.std.proofs.lemmas.List.{at_drop_all}
use Rattle.bw_text.specs.Grammar.{number_behind}
use Rattle.bw_text.proofs.Numbers.{digit_le}
use Rattle.bw_text.proofs.line_words.number_of_digits.Goals as goal

pub returns-in_err-checked_mul : goal.returns-in_err-checked_mul
returns-in_err-checked_mul c = rw c.from_residual.ensures (λ small. c.in_err-checked_mul.ensures (omega (arith, small, digit_le c.args.word.now c.loop-b.b-index c.loop-b.number c.loop-b-test.true c.loop-b.invariant.rest)))

pub returns-in_err-number : goal.returns-in_err-number
returns-in_err-number c = rw c.from_residual-in_err-number.ensures (λ small. c.in_err-number.ensures (omega (arith, small, c.in_ok-checked_mul.ensures, c.from.ensures, c.saturating_sub.ensures, digit_le c.args.word.now c.loop-b.b-index c.loop-b.number c.loop-b-test.true c.loop-b.invariant.rest)))

pub returns : goal.returns
returns c =
    let same = sym (at_drop_all (number_behind c.loop-b.number) c.args.word.now c.loop-b.b-index c.loop-b-test.false) ∙ c.loop-b.invariant.rest in
    (omega (arith, same, c.loop-b.invariant.fits), same)
