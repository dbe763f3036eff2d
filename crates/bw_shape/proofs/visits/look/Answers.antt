use Rattle.std.proofs.Common.{◌≤◌, [], ◌∷◌, length, ◌∙◌, sym, subst, ap, arith}
use Rattle.std.proofs.lemmas.List.{length-append}
use Rattle.bw_level.specs.Slots.{slot_at}
use Rattle.bw_level.specs.Splits.{slot_entries}
use Rattle.bw_look.specs.View.{TreeView}
use Rattle.bw_shape.specs.Limits.{AreWithinBut}
use Rattle.bw_shape.specs.Tidying.{DueView}
use Rattle.bw_shape.proofs.TidyLemmas.{few_within, holds_on, holds_same, within_bare, within_pass}
use Rattle.bw_shape.proofs.visits.look.Goals as goal

pub is_small-requires : goal.is_small-requires
is_small-requires c = c.know_records.ensures.there c.args.page (record { level = c.args.level; within = c.requires.page.0; in_level = c.requires.page.1 })

pub entries-requires : goal.entries-requires
entries-requires c = c.know_records.ensures.there c.args.page (record { level = c.args.level; within = c.requires.page.0; in_level = c.requires.page.1 })

pub merge-requires-clause-leaf : goal.merge-requires-clause-leaf
merge-requires-clause-leaf c = λ leaf. few_within c.args.limits.now (slot_at c.args.tree.now.slots c.args.page) (c.requires.short leaf) (c.is_small.ensures.few c.if-is_small.true)

pub returns-then-entries-page_max-clause-within : goal.returns-then-entries-page_max-clause-within
returns-then-entries-page_max-clause-within c =
    let slot = slot_at c.args.tree.now.slots c.args.page in
    let few : slot_entries slot ≤ c.args.limits.now.page_max = omega (arith, c.entries.ensures, c.page_max.ensures.value, c.if-entries-page_max.true) in
    within_pass c.args.limits.now c.args.tree.now c.args.due.now.pages c.pass.new.self.pages c.args.page
    (sym (ap (λ (d : DueView). d.pages) c.end_leaf.ensures) ∙ c.pass.ensures.pages c.args.page (c.requires.next.0, (ap (λ (d : DueView). d.pages) c.end_leaf.ensures) ∙ c.requires.next.1))
    (λ leaf. few_within c.args.limits.now slot (c.requires.short leaf) few) c.requires.within

pub returns-then-entries-page_max-clause-less : goal.returns-then-entries-page_max-clause-less
returns-then-entries-page_max-clause-less c =
    omega (arith, ap length (sym (ap (λ (d : DueView). d.pages) c.end_leaf.ensures) ∙ c.pass.ensures.pages c.args.page (c.requires.next.0, (ap (λ (d : DueView). d.pages) c.end_leaf.ensures) ∙ c.requires.next.1)), length-append c.pass.new.self.pages (c.args.page ∷ []))

pub returns-in_err-bare-clause-within : goal.returns-in_err-bare-clause-within
returns-in_err-bare-clause-within c =
    subst (λ (tree : TreeView). AreWithinBut c.args.limits.now tree c.end_leaf.new.self.pages) (sym c.in_err-bare.ensures.err)
    (subst (AreWithinBut c.args.limits.now c.args.tree.now) (sym (ap (λ (d : DueView). d.pages) c.end_leaf.ensures)) c.requires.within)

pub part_all-requires-clause-within : goal.part_all-requires-clause-within
part_all-requires-clause-within c =
    subst (AreWithinBut c.args.limits.now c.bare.new.tree) (sym (ap (λ (d : DueView). d.pages) c.end_leaf.ensures))
    (within_bare c.args.tree.now c.bare.new.tree c.args.due.now.pages c.args.page c.in_ok-bare.ensures.ok c.requires.next c.args.limits.now c.requires.within)

pub returns-clause-holds : goal.returns-clause-holds
returns-clause-holds c =
    let old = c.args.tree.now in
    let mid = c.bare.new.tree in
    holds_on old mid c.part_all.new.tree (holds_same old mid c.in_ok-bare.ensures.ok.same) c.part_all.ensures.holds
