use Rattle.std.proofs.Common.{◌≡◌, ℕ, Option, Some, sym, subst}
use Rattle.std.specs.Prelude.{MatchOption}
use Rattle.bw_look.specs.View.{TreeView}
use Rattle.bw_steps.specs.Naming.{AreFinished}
use Rattle.bw_steps.specs.Steps.{IsFinishStep}
use Rattle.bw_shape.specs.Tidying.{DueView, KeepsWithin}
use Rattle.bw_steps.specs.declared.steps.Did.TheVariants.{NotNeeded}
use Rattle.bw_shape.proofs.TidyLemmas.{tidy_after, tidy_all_named}
use Rattle.bw_shape.proofs.due.Due.finish.Goals as goal

abbrev Outcome : TreeView → TreeView → ℕ → Option ℕ → Type 0
Outcome old new page parent = MatchOption parent (IsFinishStep old new page NotNeeded) (AreFinished old new page)

named : (old new : TreeView) (page parent : ℕ) (o : Option ℕ) → o ≡ Some parent → Outcome old new page o → (due inside : DueView) → inside ≡ due → KeepsWithin old new due.pages inside.pages
named old new page parent o is outcome due inside same =
    subst (λ (d : DueView). KeepsWithin old new due.pages d.pages) (sym same) ((tidy_all_named old new page parent (subst (Outcome old new page) is outcome)).within due.pages)

pub returns-in-Some-clause-within : goal.returns-in-Some-clause-within
returns-in-Some-clause-within c =
    named c.args.tree.now c.name_rights.new.tree c.args.page c.in-Some.parent _ c.in-Some.is c.in_ok-parent.ensures.ok c.args.self.now _ c.self.view_is

pub returns-clause-within : goal.returns-clause-within
returns-clause-within c =
    let old = c.args.tree.now in
    let mid = c.name_rights.new.tree in
    let new = c.grow_root.new.tree in
    let not : IsFinishStep old mid c.args.page NotNeeded = subst (Outcome old mid c.args.page) c.in_default.is c.in_ok-parent.ensures.ok in
    subst (λ (d : DueView). KeepsWithin old new c.args.self.now.pages d.pages) (sym c.self.view_is)
    ((tidy_after old mid new mid.root c.in_ok-grow_root.field-0 c.know_levels.ensures.lawful c.requires not.0 c.in_ok-grow_root.ensures.ok).within c.args.self.now.pages)

pub returns-clause-holds : goal.returns-clause-holds
returns-clause-holds c =
    let old = c.args.tree.now in
    let mid = c.name_rights.new.tree in
    let not : IsFinishStep old mid c.args.page NotNeeded = subst (Outcome old mid c.args.page) c.in_default.is c.in_ok-parent.ensures.ok in
    (tidy_after old mid c.grow_root.new.tree mid.root c.in_ok-grow_root.field-0 c.know_levels.ensures.lawful c.requires not.0 c.in_ok-grow_root.ensures.ok).holds
