use Rattle.std.proofs.Common.{◌≡◌, ◌*◌, ◌++◌, length, map, flat_map}
use Rattle.std.specs.List.{AllByRecursion}
use Rattle.std.specs.List.Sorted.{IsPermutation}
use Rattle.bw_answer.specs.Sections.{ArePartedFrom, IsAnswerFrom}
use Rattle.bw_answer.proofs.sections.Cut.by_section.Given as goal

abbrev pub invariant-loop-answer : goal.invariant-loop-answer
invariant-loop-answer l = record {
  count : length l.lists.items ≡ l.fn.self.count;
  parted : ArePartedFrom 0 l.fn.self.size (map (λ list. list.items) l.lists.items);
  there : AllByRecursion (IsAnswerFrom 0 (l.fn.self.count * l.fn.self.size)) l.answer-iterator.rest.items;
  same : IsPermutation l.fn.answers.items (flat_map (λ list. list.items) l.lists.items ++ l.answer-iterator.rest.items);
}
