use Rattle.std.proofs.Common.{ap, sym, subst}
use Rattle.bw_shape.specs.Limits.{AreWithinBut}
use Rattle.bw_shape.specs.Tidying.{DueView}
use Rattle.bw_shape.proofs.tidying.go_on.Goals as goal

pub returns-in_err-finish-clause-within : goal.returns-in_err-finish-clause-within
returns-in_err-finish-clause-within c = λ limits but. c.in_err-finish.ensures.within limits (c.in_ok-finish_merge.ensures.within limits but)

pub returns-clause-within : goal.returns-clause-within
returns-clause-within c = λ limits but.
    subst (AreWithinBut limits c.finish.new.tree) (sym (ap (λ (d : DueView). d.pages) c.set_unfinished.ensures)) (c.in_ok-finish.ensures.within limits (c.in_ok-finish_merge.ensures.within limits but))
