use Rattle.std.proofs.Common.{refl}
use Rattle.bw_shape.proofs.AbsorbLemmas.{tidy_on}
use Rattle.bw_shape.proofs.TidyLemmas.{tidy_finish, tidy_same, tidy_still}
use Rattle.bw_shape.proofs.finishing.finish_each.Goals as goal

pub loop-page-init : goal.loop-page-init
loop-page-init c = tidy_still c.args.tree.now c.args.tree.now c.requires refl

pub loop-page-preserved : goal.loop-page-preserved
loop-page-preserved c =
    let mid = c.loop-page.tree in
    tidy_on c.args.tree.now mid c.finish_split.new.tree c.loop-page.invariant
    (tidy_finish mid c.finish_split.new.tree _ c.in_ok-finish_split.field-0 c.loop-page.invariant.holds.staged c.in_ok-finish_split.ensures.ok)

pub returns-in_err-finish_split-clause-holds : goal.returns-in_err-finish_split-clause-holds
returns-in_err-finish_split-clause-holds c =
    let mid = c.loop-page.tree in
    (tidy_on c.args.tree.now mid c.finish_split.new.tree c.loop-page.invariant
    (tidy_same _ mid c.finish_split.new.tree c.loop-page.invariant.holds.staged c.in_err-finish_split.ensures.err)).holds

pub returns-in_err-finish_split-clause-within : goal.returns-in_err-finish_split-clause-within
returns-in_err-finish_split-clause-within c =
    let mid = c.loop-page.tree in
    (tidy_on c.args.tree.now mid c.finish_split.new.tree c.loop-page.invariant
    (tidy_same _ mid c.finish_split.new.tree c.loop-page.invariant.holds.staged c.in_err-finish_split.ensures.err)).within
