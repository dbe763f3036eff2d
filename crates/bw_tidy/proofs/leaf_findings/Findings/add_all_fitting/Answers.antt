use Rattle.std.proofs.Common.{None, refl, sym, subst, ◌∙◌}
use Rattle.std.specs.List.{AllByRecursion}
use Rattle.bw_tidy.specs.Findings.{FitsAt}
use Rattle.bw_tidy.proofs.FindingsLemmas.{go_on, stay}
use Rattle.bw_tidy.proofs.leaf_findings.Findings.add_all_fitting.Goals as goal

pub loop-page-init : goal.loop-page-init
loop-page-init c = record { limits = refl; found = λ tree stamp all. (stay tree stamp c.args.self.now, subst (AllByRecursion (λ p. FitsAt tree c.args.self.now.limits p None)) (sym c.into_iter-page-iterator.ensures.into_iter_gives.0) all) }

pub loop-page-preserved : goal.loop-page-preserved
loop-page-preserved c = record {
  limits = c.add_fitting.ensures.limits ∙ c.loop-page.invariant.limits;
  found = λ tree stamp all.
      let first = c.args.self.now in
      let i = c.loop-page.invariant.found tree stamp all in
      let parts = subst (AllByRecursion (λ p. FitsAt tree first.limits p None)) c.in-Some.ensures.steps.0 i.1 in
      (go_on tree stamp first c.loop-page.self c.add_fitting.new.self i.0 (c.add_fitting.ensures.found tree stamp (subst (λ l. FitsAt tree l c.in-Some.page None) (sym i.0.limits) parts.0)), parts.1);
}

pub returns : goal.returns
returns c = record { limits = c.loop-page.invariant.limits; found = λ tree stamp all. (c.loop-page.invariant.found tree stamp all).0 }
