use Rattle.std.proofs.Common.{◌≡◌, ℕ}
use Rattle.std.specs.List.{AllByRecursion}
use Rattle.bw_look.specs.View.{TreeView}
use Rattle.bw_tidy.specs.Findings.{GoOn, IsFinding}
use Rattle.bw_tidy.proofs.leaf_findings.Findings.add_all_due.Given as goal

abbrev pub invariant-loop-finding : goal.invariant-loop-finding
invariant-loop-finding l = record {
  limits : l.self.limits ≡ l.fn.self.limits;
  found : (tree : TreeView) (stamp : ℕ) →
      AllByRecursion (IsFinding tree l.fn.self.limits stamp) l.fn.findings.items →
      GoOn tree stamp l.fn.self l.self × AllByRecursion (IsFinding tree l.fn.self.limits stamp) l.finding-iterator.rest.items;
}
