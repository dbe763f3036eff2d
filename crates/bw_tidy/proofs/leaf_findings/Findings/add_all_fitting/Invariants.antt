use Rattle.std.proofs.Common.{◌≡◌, ℕ, None}
use Rattle.std.specs.List.{AllByRecursion}
use Rattle.bw_look.specs.View.{TreeView}
use Rattle.bw_tidy.specs.Findings.{FitsAt, GoOn}
use Rattle.bw_tidy.proofs.leaf_findings.Findings.add_all_fitting.Given as goal

abbrev pub invariant-loop-page : goal.invariant-loop-page
invariant-loop-page l = record {
  limits : l.self.limits ≡ l.fn.self.limits;
  found : (tree : TreeView) (stamp : ℕ) →
      AllByRecursion (λ p. FitsAt tree l.fn.self.limits p None) l.fn.pages.items →
      GoOn tree stamp l.fn.self l.self × AllByRecursion (λ p. FitsAt tree l.fn.self.limits p None) l.page-iterator.rest.items;
}
