use Rattle.std.proofs.Common.{refl}
use Rattle.bw_shape.proofs.AbsorbLemmas.{tidy_on}
use Rattle.bw_shape.proofs.TidyLemmas.{tidy_still}
use Rattle.bw_shape.proofs.finishing.finish_merges.Goals as goal

pub loop-place-init : goal.loop-place-init
loop-place-init c = tidy_still c.args.tree.now c.args.tree.now c.requires refl

pub loop-place-preserved : goal.loop-place-preserved
loop-place-preserved c =
    tidy_on c.args.tree.now c.loop-place.tree c.finish_merge.new.tree c.loop-place.invariant
    (record { holds = c.in_ok-finish_merge.ensures.holds; within = c.in_ok-finish_merge.ensures.within })

pub returns-in_err-finish_merge-clause-within : goal.returns-in_err-finish_merge-clause-within
returns-in_err-finish_merge-clause-within c =
    (tidy_on c.args.tree.now c.loop-place.tree c.finish_merge.new.tree c.loop-place.invariant
    (record { holds = c.in_err-finish_merge.ensures.holds; within = c.in_err-finish_merge.ensures.within })).within
