use Rattle.bw_steps.proofs.steps.is_splittable.Goals as goal

pub returns-in_default-clause-no : goal.returns-in_default-clause-no
returns-in_default-clause-no c = λ no ok. c.in_default.ensures.level ok.level (ok.within, ok.in_level)
