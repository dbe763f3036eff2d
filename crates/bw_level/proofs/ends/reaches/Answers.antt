use Rattle.std.proofs.Common.{sym, ap, ◌∙◌}
use Rattle.std.specs.Option.{option_copied}
use Rattle.bw_level.proofs.EndLemmas.{reaches_end, misses_end}
use Rattle.bw_level.proofs.ends.reaches.Goals as goal

pub returns-in-Some-Some-clause-reached : goal.returns-in-Some-Some-clause-reached
returns-in-Some-Some-clause-reached c = λ answer. reaches_end _ _ c.in-Some-Some.high.now c.in-Some-Some.to.now (ap option_copied c.in-Some-Some.is-0) (ap option_copied c.in-Some-Some.is-1) (sym c.le.ensures ∙ answer)

pub returns-in-Some-Some-clause-missed : goal.returns-in-Some-Some-clause-missed
returns-in-Some-Some-clause-missed c = λ answer. misses_end _ _ c.in-Some-Some.high.now c.in-Some-Some.to.now (ap option_copied c.in-Some-Some.is-0) (ap option_copied c.in-Some-Some.is-1) (sym c.le.ensures ∙ answer)
