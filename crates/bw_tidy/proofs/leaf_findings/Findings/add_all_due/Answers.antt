use Rattle.std.proofs.Common.{refl, sym, subst, ◌∙◌}
use Rattle.std.specs.List.{AllByRecursion}
use Rattle.bw_tidy.specs.Findings.{IsFinding}
use Rattle.bw_tidy.proofs.FindingsLemmas.{go_on, stay}
use Rattle.bw_tidy.proofs.leaf_findings.Findings.add_all_due.Goals as goal

pub loop-finding-init : goal.loop-finding-init
loop-finding-init c = record { limits = refl; found = λ tree stamp all. (stay tree stamp c.args.self.now, subst (AllByRecursion (IsFinding tree c.args.self.now.limits stamp)) (sym c.into_iter-finding-iterator.ensures.into_iter_gives.0) all) }

pub loop-finding-preserved : goal.loop-finding-preserved
loop-finding-preserved c = record {
  limits = c.add_due.ensures.limits ∙ c.loop-finding.invariant.limits;
  found = λ tree stamp all.
      let first = c.args.self.now in
      let i = c.loop-finding.invariant.found tree stamp all in
      let parts = subst (AllByRecursion (IsFinding tree first.limits stamp)) c.in-Some.ensures.steps.0 i.1 in
      (go_on tree stamp first c.loop-finding.self c.add_due.new.self i.0 (c.add_due.ensures.found tree stamp (subst (λ l. IsFinding tree l stamp c.in-Some.finding) (sym i.0.limits) parts.0)), parts.1);
}

pub returns : goal.returns
returns c = record { limits = c.loop-finding.invariant.limits; found = λ tree stamp all. (c.loop-finding.invariant.found tree stamp all).0 }
