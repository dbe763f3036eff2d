use Rattle.std.proofs.Common.{◌≡◌, ℕ, ◌++◌, flat_map}
use Rattle.std.specs.List.{AllByRecursion}
use Rattle.std.specs.List.Sorted.{IsPermutation}
use Rattle.bw_look.specs.View.{TreeView}
use Rattle.bw_tidy.specs.Findings.{GoOn}
use Rattle.bw_answer.specs.Sections.{answers_in, answers_of, AreBySection, AreSectionsOf}
use Rattle.bw_answer.proofs.sections.Cut.gather.Given as goal

abbrev pub invariant-loop-part : goal.invariant-loop-part
invariant-loop-part l = record {
  sections : AreSectionsOf l.fn.self l.sections.items;
  parts : AllByRecursion (λ part. AreBySection l.fn.self part.lists.items) l.part-iterator.rest.items;
  same : IsPermutation (flat_map answers_in l.fn.parts.items) (flat_map answers_of l.sections.items ++ flat_map answers_in l.part-iterator.rest.items);
  limits : l.findings.limits ≡ l.fn.findings.limits;
  alike : AllByRecursion (λ part. part.findings.limits ≡ l.fn.findings.limits) l.part-iterator.rest.items;
  found : (tree : TreeView) (stamp : ℕ) → AllByRecursion (λ part. GoOn tree stamp l.fn.findings part.findings) l.fn.parts.items →
      GoOn tree stamp l.fn.findings l.findings × AllByRecursion (λ part. GoOn tree stamp l.fn.findings part.findings) l.part-iterator.rest.items;
}
