use Rattle.bw_shape.proofs.AbsorbLemmas.{tidy_dropped, tidy_on}
use Rattle.bw_shape.proofs.TidyLemmas.{tidy_freed, tidy_same}
use Rattle.bw_shape.proofs.finishing.finish_merge.Goals as goal

pub returns-in_err-finish_absorb-clause-within : goal.returns-in_err-finish_absorb-clause-within
returns-in_err-finish_absorb-clause-within c = (tidy_same _ c.args.tree.now c.finish_absorb.new.tree c.requires c.in_err-finish_absorb.ensures.err).within

pub returns-clause-holds : goal.returns-clause-holds
returns-clause-holds c =
    let old = c.args.tree.now in
    let mid = c.finish_absorb.new.tree in
    let new = c.release_run.new.tree in
    (tidy_on old mid new (tidy_dropped old mid _ c.in_ok-finish_absorb.field-0 c.requires c.in_ok-finish_absorb.ensures.ok) (tidy_freed mid new c.release_run.ensures.freed)).holds

pub returns-clause-within : goal.returns-clause-within
returns-clause-within c =
    let old = c.args.tree.now in
    let mid = c.finish_absorb.new.tree in
    let new = c.release_run.new.tree in
    (tidy_on old mid new (tidy_dropped old mid _ c.in_ok-finish_absorb.field-0 c.requires c.in_ok-finish_absorb.ensures.ok) (tidy_freed mid new c.release_run.ensures.freed)).within
