use Rattle.bw_shape.proofs.AbsorbLemmas.{tidy_trimmed}
use Rattle.bw_shape.proofs.tidying.forget_free.Goals as goal

pub returns-clause-holds : goal.returns-clause-holds
returns-clause-holds c = (tidy_trimmed c.args.tree.now c.trim.new.self c.trim.ensures).holds

pub returns-clause-within : goal.returns-clause-within
returns-clause-within c = (tidy_trimmed c.args.tree.now c.trim.new.self c.trim.ensures).within
