use Rattle.std.proofs.Common.{inl, inr, List, ℕ, take_all, sym, ap, subst, ◌∙◌}
use Rattle.std.specs.List.{Contains}
use Rattle.bw_tidy.specs.Findings.{AreLeft}
use Rattle.bw_tidy.proofs.FindingsLemmas.{last_there, next_left, no_pages, with_last}
use Rattle.bw_tidy.proofs.leaf_findings.Findings.list_left.Goals.{then-is_fitting_at, else-is_fitting_at+in_ok-push}
use Rattle.bw_tidy.proofs.leaf_findings.Findings.list_left.Goals as goal

pub loop-page-init : goal.loop-page-init
loop-page-init c = no_pages c.args.self.now.fitting.items c.new-left.result.items

pub loop-page-preserved : goal.loop-page-preserved
loop-page-preserved c =
    let next = next_left c.args.pages.now c.args.self.now.fitting.items c.loop-page.left.items c.if-is_fitting_at.left.items c.loop-page.page-index c.page-item.result
    c.loop-page-test.true c.page-item.is c.loop-page.invariant in
    elim c.if-is_fitting_at.branch [
      | then-is_fitting_at w ↦ next (λ p has. subst (λ v. Contains v.items p) (sym w.left-is) has) (inr (c.is_fitting_at.ensures w.if-is_fitting_at.true))
      | else-is_fitting_at+in_ok-push w ↦
          next (with_last c.loop-page.left.items c.if-is_fitting_at.left.items c.page-item.result (ap (λ v. v.items) w.left-is ∙ w.in_ok-push.ensures.items))
          (inl (last_there c.loop-page.left.items c.if-is_fitting_at.left.items c.page-item.result (ap (λ v. v.items) w.left-is ∙ w.in_ok-push.ensures.items)))
    ]

pub returns : goal.returns
returns c =
    subst (λ (l : List ℕ). AreLeft l c.args.self.now.fitting.items c.loop-page.left.items) (take_all c.loop-page.page-index c.args.pages.now c.loop-page-test.false) c.loop-page.invariant
