use Rattle.std.proofs.Common.{refl, sym, subst}
use Rattle.bw_key.specs.Order.{KeyBytes}
use Rattle.bw_level.specs.Children.{FitsChild}
use Rattle.bw_look.proofs.UnnamedLemmas.{fits_child}
use Rattle.bw_steps.proofs.FinishLemmas.{over_namer, where_refused}
use Rattle.bw_steps.proofs.steps.name_right.Goals as goal

pub returns-in_default-clause-ok : goal.returns-in_default-clause-ok
returns-in_default-clause-ok c = (refl, λ parent q sep u. c.in_default.ensures.level u.level (u.within, u.in_level))

pub name_child-requires-clause-fits : goal.name_child-requires-clause-fits
name_child-requires-clause-fits c =
    let tree = c.args.tree.now in
    let u = c.in-Some-unnamed_right.unnamed in
    subst (λ (k : KeyBytes). FitsChild tree.slots tree.levels u.parent k u.page) (sym c.in_ok-sep.ensures.ok)
    (fits_child tree tree.root c.know_levels.ensures.lawful c.args.page c.know_entries.ensures u.parent u.sep.now u.page c.in-Some-unnamed_right.ensures)

pub returns-in_err-name_child-clause-err : goal.returns-in_err-name_child-clause-err
returns-in_err-name_child-clause-err c =
    let u = c.in-Some-unnamed_right.unnamed in
    where_refused c.from_residual-in_err-name_child.result
    (over_namer c.args.tree.now c.name_child.new.tree c.args.page u.parent u.sep.now u.page c.in-Some-unnamed_right.ensures c.in_err-name_child.ensures.err)
