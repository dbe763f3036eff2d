use Rattle.std.proofs.Common.{◌≡◌, ◌+◌, ◌*◌, ◌++◌, length, map, flat_map}
use Rattle.std.specs.List.Sorted.{IsPermutation}
use Rattle.bw_answer.specs.Sections.{answers_of, AreSectionsOf, ArePartedFrom}
use Rattle.bw_answer.proofs.sections.Cut.add_lists.Given as goal

abbrev pub invariant-loop-list : goal.invariant-loop-list
invariant-loop-list l = record {
  sections : AreSectionsOf l.fn.self l.sections.items;
  left : l.number + length l.list-iterator.rest.items ≡ l.fn.self.count;
  parted : ArePartedFrom (l.number * l.fn.self.size) l.fn.self.size (map (λ list. list.items) l.list-iterator.rest.items);
  same : IsPermutation (flat_map answers_of l.fn.sections.items ++ flat_map (λ list. list.items) l.fn.lists.items) (flat_map answers_of l.sections.items ++ flat_map (λ list. list.items) l.list-iterator.rest.items);
}
