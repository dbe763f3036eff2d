use Rattle.std.proofs.Common.{◌≡◌, [], length}
use Rattle.std.specs.List.{AllByRecursion}
use Rattle.bw_answer.specs.Sections.{answers_of, AreStartsFrom}
use Rattle.bw_answer.proofs.sections.Cut.empty_sections.Given as goal

abbrev pub invariant-loop-number : goal.invariant-loop-number
invariant-loop-number l = record {
  count : length l.sections.items ≡ l.number;
  starts : AreStartsFrom 0 l.fn.self.size l.sections.items;
  empty : AllByRecursion (λ section. answers_of section ≡ []) l.sections.items;
}
