use Rattle.std.proofs.Common.{ap, sym, subst, ◌∙◌}
use Rattle.bw_shape.specs.Limits.{AreWithinBut}
use Rattle.bw_steps.specs.MergeSteps.{IsAbsorptionStep}
use Rattle.bw_shape.specs.Tidying.{DueView}
use Rattle.bw_shape.proofs.AbsorbLemmas.{absorbed_within}
use Rattle.bw_shape.proofs.UnfinishedLemmas.{is_told}
use Rattle.bw_shape.proofs.absorbing.absorb_next.Goals as goal

pub are_few-requires : goal.are_few-requires
are_few-requires c = c.know_records.ensures.there c.args.page (record { level = c.args.level; within = c.requires.page.0; in_level = c.requires.page.1 })

pub returns-in_err-mark_later-clause-within : goal.returns-in_err-mark_later-clause-within
returns-in_err-mark_later-clause-within c = subst (AreWithinBut c.args.limits.now c.args.tree.now) (sym (ap (λ (d : DueView). d.pages) c.in_err-mark_later.ensures)) c.requires.within

pub returns-in_err-absorb-clause-within : goal.returns-in_err-absorb-clause-within
returns-in_err-absorb-clause-within c =
    subst (λ t. AreWithinBut c.args.limits.now t c.mark_later.new.self.pages) (sym c.in_err-absorb.ensures.err)
    (subst (AreWithinBut c.args.limits.now c.args.tree.now) (sym (ap (λ (d : DueView). d.pages) c.in_ok-mark_later.ensures)) c.requires.within)

pub returns-in-NotNeeded-clause-within : goal.returns-in-NotNeeded-clause-within
returns-in-NotNeeded-clause-within c =
    let step = subst (IsAbsorptionStep c.args.tree.now c.absorb.new.tree c.args.page) c.in-NotNeeded.is c.in_ok-absorb.ensures.ok in
    subst (λ t. AreWithinBut c.args.limits.now t c.mark_later.new.self.pages) (sym step.0)
    (subst (AreWithinBut c.args.limits.now c.args.tree.now) (sym (ap (λ (d : DueView). d.pages) c.in_ok-mark_later.ensures)) c.requires.within)

pub returns-in_err-finish_merge-in-Done-clause-within : goal.returns-in_err-finish_merge-in-Done-clause-within
returns-in_err-finish_merge-in-Done-clause-within c =
    c.in_err-finish_merge-in-Done.ensures.within c.args.limits.now
    (absorbed_within c.args.limits.now c.args.tree.now c.absorb.new.tree c.args.page c.in_ok-absorb.field-0 c.args.due.now.pages c.pass_merged.new.self.pages c.in-Done.is c.in_ok-absorb.ensures.ok
    (c.are_few.ensures c.if-not-are_few.false)
    (sym (ap (λ (d : DueView). d.pages) c.in_ok-mark_later.ensures) ∙ c.pass_merged.ensures.pages (c.requires.next.0, (ap (λ (d : DueView). d.pages) c.in_ok-mark_later.ensures) ∙ c.requires.next.1)) c.requires.within)

pub returns-in_ok-finish_merge-in-Done-clause-within : goal.returns-in_ok-finish_merge-in-Done-clause-within
returns-in_ok-finish_merge-in-Done-clause-within c =
    subst (AreWithinBut c.args.limits.now c.finish_merge.new.tree) (sym (ap (λ (d : DueView). d.pages) c.set_unfinished.ensures))
    (c.in_ok-finish_merge-in-Done.ensures.within c.args.limits.now
    (absorbed_within c.args.limits.now c.args.tree.now c.absorb.new.tree c.args.page c.in_ok-absorb.field-0 c.args.due.now.pages c.pass_merged.new.self.pages c.in-Done.is c.in_ok-absorb.ensures.ok
    (c.are_few.ensures c.if-not-are_few.false)
    (sym (ap (λ (d : DueView). d.pages) c.in_ok-mark_later.ensures) ∙ c.pass_merged.ensures.pages (c.requires.next.0, (ap (λ (d : DueView). d.pages) c.in_ok-mark_later.ensures) ∙ c.requires.next.1)) c.requires.within))

pub returns-in_err-finish_merge-in-Done-clause-kept : goal.returns-in_err-finish_merge-in-Done-clause-kept
returns-in_err-finish_merge-in-Done-clause-kept c =
    is_told _ c.from_residual-in_err-finish_merge-in-Done.result c.absorb.new.tree c.finish_merge.new.tree c.args.page c.finish_merge.new.self.unfinished
    (c.in_err-finish_merge-in-Done.ensures.err c.pass_merged.ensures.unfinished)
