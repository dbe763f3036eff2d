use Rattle.std.proofs.Common.{sym, subst}
use Rattle.bw_shape.specs.Limits.{AreWithinBut}
use Rattle.bw_shape.proofs.UnfinishedLemmas.{within_all}
use Rattle.bw_shape.proofs.tidying.visit_all.Goals as goal

pub returns-in_err-finish_given-clause-within : goal.returns-in_err-finish_given-clause-within
returns-in_err-finish_given-clause-within c =
    within_all c.args.limits.now c.args.tree.now c.finish_given.new.tree c.args.due.now.pages c.finish_given.new.due.pages c.in_err-finish_given.ensures.pages c.in_err-finish_given.ensures.within c.requires.within

pub returns-in_err-go_on-clause-within : goal.returns-in_err-go_on-clause-within
returns-in_err-go_on-clause-within c =
    c.in_err-go_on.ensures.within c.args.limits.now
    (within_all c.args.limits.now c.args.tree.now c.finish_given.new.tree c.args.due.now.pages c.finish_given.new.due.pages c.in_ok-finish_given.ensures.pages c.in_ok-finish_given.ensures.within c.requires.within)

pub returns-in_err-begin-clause-within : goal.returns-in_err-begin-clause-within
returns-in_err-begin-clause-within c =
    c.in_err-begin.ensures.within c.args.limits.now (c.in_ok-go_on.ensures.within c.args.limits.now
    (within_all c.args.limits.now c.args.tree.now c.finish_given.new.tree c.args.due.now.pages c.finish_given.new.due.pages c.in_ok-finish_given.ensures.pages c.in_ok-finish_given.ensures.within c.requires.within))

pub visit_levels-requires-clause-within : goal.visit_levels-requires-clause-within
visit_levels-requires-clause-within c =
    c.in_ok-begin.ensures.within c.args.limits.now (c.in_ok-go_on.ensures.within c.args.limits.now
    (within_all c.args.limits.now c.args.tree.now c.finish_given.new.tree c.args.due.now.pages c.finish_given.new.due.pages c.in_ok-finish_given.ensures.pages c.in_ok-finish_given.ensures.within c.requires.within))

pub returns-clause-within : goal.returns-clause-within
returns-clause-within c =
    c.forget_free.ensures.within c.lower.new.due.pages c.args.limits.now
    (subst (AreWithinBut c.args.limits.now c.lower.new.tree) (sym c.in_ok-lower.ensures.pages)
    (c.in_ok-lower.ensures.within c.visit_levels.new.due.pages c.args.limits.now c.in_ok-visit_levels.ensures.within))

pub returns-in_err-lower-clause-within : goal.returns-in_err-lower-clause-within
returns-in_err-lower-clause-within c =
    subst (AreWithinBut c.args.limits.now c.lower.new.tree) (sym c.in_err-lower.ensures.pages)
    (c.in_err-lower.ensures.within c.visit_levels.new.due.pages c.args.limits.now c.in_ok-visit_levels.ensures.within)
