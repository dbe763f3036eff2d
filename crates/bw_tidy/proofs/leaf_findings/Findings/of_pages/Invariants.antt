use Rattle.std.proofs.Common.{ℕ, ◌≡◌, map, take}
use Rattle.std.specs.List.{AllByRecursion}
use Rattle.bw_look.specs.View.{TreeView}
use Rattle.bw_tidy.specs.Findings.{AreFindings, IsFinding}
use Rattle.bw_tidy.proofs.leaf_findings.Findings.of_pages.Given as goal

abbrev pub invariant-loop-page : goal.invariant-loop-page
invariant-loop-page l = record {
  pages : map (λ finding. finding.page) l.findings.items ≡ take l.page-index l.pages;
  found : (tree : TreeView) (stamp : ℕ) → AreFindings tree stamp l.fn.self →
      AllByRecursion (IsFinding tree l.fn.self.limits stamp) l.findings.items × AllByRecursion (IsFinding tree l.fn.self.limits stamp) l.due.items;
}
