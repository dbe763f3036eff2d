use Rattle.std.proofs.Common.{sym, ap, ◌∙◌}
use Rattle.std.specs.Borrow.{Bor}
use Rattle.std.specs.Option.{option_copied}
use Rattle.bw_key.specs.Order.{KeyBytes}
use Rattle.bw_level.proofs.EndLemmas.{below_lower, below_other}
use Rattle.bw_level.proofs.ends.lower_end.Goals as goal
use Rattle.bw_level.proofs.ends.lower_end.Goals.{then-lt, else-lt}

pub returns-after-lt : goal.returns-after-lt
returns-after-lt c = λ key. elim c.if-lt.branch [
  | then-lt w ↦ below_lower _ _ _ c.in-Some-Some.a.now c.in-Some-Some.b.now key (ap option_copied c.in-Some-Some.is-0) (ap option_copied c.in-Some-Some.is-1) (ap (λ (r : Bor KeyBytes). r.now) w.result-is) (sym c.lt.ensures ∙ w.if-lt.true)
  | else-lt w ↦ below_other _ _ _ c.in-Some-Some.a.now c.in-Some-Some.b.now key (ap option_copied c.in-Some-Some.is-0) (ap option_copied c.in-Some-Some.is-1) (ap (λ (r : Bor KeyBytes). r.now) w.result-is) (sym c.lt.ensures ∙ w.if-lt.false)
]
