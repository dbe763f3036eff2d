use Rattle.bw_shape.proofs.AbsorbLemmas.{tidy_lowered_freed}
use Rattle.bw_shape.proofs.tidying.lower_once.Goals as goal

pub returns-in_ok-release_from-clause-within : goal.returns-in_ok-release_from-clause-within
returns-in_ok-release_from-clause-within c = (tidy_lowered_freed c.args.tree.now c.drop_root.new.tree c.release_from.new.tree c.in_ok-did.did c.know_levels.ensures.lawful c.requires c.in_ok-did.ensures.ok c.in_ok-release_from.ensures.freed).within

pub returns-in_err-release_from-clause-within : goal.returns-in_err-release_from-clause-within
returns-in_err-release_from-clause-within c = (tidy_lowered_freed c.args.tree.now c.drop_root.new.tree c.release_from.new.tree c.in_ok-did.did c.know_levels.ensures.lawful c.requires c.in_ok-did.ensures.ok c.in_err-release_from.ensures.freed).within

pub returns-in_ok-release_from-clause-holds : goal.returns-in_ok-release_from-clause-holds
returns-in_ok-release_from-clause-holds c = (tidy_lowered_freed c.args.tree.now c.drop_root.new.tree c.release_from.new.tree c.in_ok-did.did c.know_levels.ensures.lawful c.requires c.in_ok-did.ensures.ok c.in_ok-release_from.ensures.freed).holds

pub returns-in_err-release_from-clause-holds : goal.returns-in_err-release_from-clause-holds
returns-in_err-release_from-clause-holds c = (tidy_lowered_freed c.args.tree.now c.drop_root.new.tree c.release_from.new.tree c.in_ok-did.did c.know_levels.ensures.lawful c.requires c.in_ok-did.ensures.ok c.in_err-release_from.ensures.freed).holds
