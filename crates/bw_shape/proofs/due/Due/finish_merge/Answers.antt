use Rattle.std.proofs.Common.{◌∙◌, ap, sym, subst}
use Rattle.std.proofs.lemmas.Result.{on_err_weaker, on_ok_weaker}
use Rattle.bw_shape.specs.Tidying.{DueView, KeepsWithin}
use Rattle.bw_shape.proofs.AbsorbLemmas.{tidy_dropped, tidy_on}
use Rattle.bw_shape.proofs.TidyLemmas.{tidy_freed}
use Rattle.bw_shape.proofs.UnfinishedLemmas.{left_out, step_unnamed, still_unnamed, stopped_at, unnamed_on}
use Rattle.bw_shape.proofs.due.Due.finish_merge.Goals as goal

pub returns-clause-within : goal.returns-clause-within
returns-clause-within c =
    let old = c.args.tree.now in
    let mid = c.finish_absorb.new.tree in
    let new = c.release_from-2.new.tree in
    let dropped = tidy_dropped old mid c.args.page c.in_ok-finish_absorb.field-0 c.requires c.in_ok-finish_absorb.ensures.ok in
    let released = tidy_freed mid new c.release_from-2.ensures.freed in
    let pages = c.release_from-2.ensures.pages ∙ ap (λ (d : DueView). d.pages) c.self.view_is in
    subst (KeepsWithin old new c.args.self.now.pages) (sym pages)
    ((tidy_on old mid new dropped released).within c.args.self.now.pages)

pub returns-in_default-clause-holds : goal.returns-in_default-clause-holds
returns-in_default-clause-holds c = (tidy_freed c.args.tree.now c.release_from.new.tree c.release_from.ensures.freed).holds

pub returns-in_default-clause-unnamed : goal.returns-in_default-clause-unnamed
returns-in_default-clause-unnamed c =
    let tree = c.args.tree.now in
    let none = still_unnamed tree c.args.page c.in_default.ensures in
    on_ok_weaker c.release_from.result (λ out. unnamed_on tree tree c.release_from.new.tree c.args.page none c.release_from.ensures.freed) c.release_from.ensures.none

pub returns-in_default-clause-err : goal.returns-in_default-clause-err
returns-in_default-clause-err c = λ was.
    let tree = c.args.tree.now in
    let none = still_unnamed tree c.args.page c.in_default.ensures in
    on_err_weaker c.release_from.result (stopped_at tree tree c.release_from.new.tree c.args.page none c.release_from.ensures.freed _) c.release_from.ensures.err

pub returns-clause-unnamed : goal.returns-clause-unnamed
returns-clause-unnamed c =
    let old = c.args.tree.now in
    let mid = c.finish_absorb.new.tree in
    let none = step_unnamed old mid c.args.page c.in_ok-finish_absorb.field-0 c.know_levels.ensures.lawful c.in_ok-finish_absorb.ensures.ok in
    on_ok_weaker c.release_from-2.result (λ out. unnamed_on old mid c.release_from-2.new.tree c.args.page none c.release_from-2.ensures.freed) c.release_from-2.ensures.none

pub returns-clause-none : goal.returns-clause-none
returns-clause-none c =
    let old = c.args.tree.now in
    let mid = c.finish_absorb.new.tree in
    let none = step_unnamed old mid c.args.page c.in_ok-finish_absorb.field-0 c.know_levels.ensures.lawful c.in_ok-finish_absorb.ensures.ok in
    on_ok_weaker c.release_from-2.result (left_out old mid c.release_from-2.new.tree c.args.page none c.release_from-2.ensures.freed) c.release_from-2.ensures.none

pub returns-clause-err : goal.returns-clause-err
returns-clause-err c = λ was.
    let old = c.args.tree.now in
    let mid = c.finish_absorb.new.tree in
    let none = step_unnamed old mid c.args.page c.in_ok-finish_absorb.field-0 c.know_levels.ensures.lawful c.in_ok-finish_absorb.ensures.ok in
    on_err_weaker c.release_from-2.result (stopped_at old mid c.release_from-2.new.tree c.args.page none c.release_from-2.ensures.freed _) c.release_from-2.ensures.err
