use Rattle.std.proofs.Common.{ap, sym, subst}
use Rattle.bw_shape.specs.Limits.{AreWithinBut}
use Rattle.bw_shape.specs.Tidying.{DueView}
use Rattle.bw_shape.proofs.halving.part_root.Goals as goal

pub part_each-requires-clause-within : goal.part_each-requires-clause-within
part_each-requires-clause-within c =
    subst (AreWithinBut c.args.limits.now c.finish.new.tree) (sym (ap (λ (d : DueView). d.pages) c.set_unfinished-2.ensures)) (c.in_ok-finish.ensures.within c.args.limits.now c.in_ok-part.ensures.within)

pub returns-in_err-finish-clause-within : goal.returns-in_err-finish-clause-within
returns-in_err-finish-clause-within c = c.in_err-finish.ensures.within c.args.limits.now c.in_ok-part.ensures.within
