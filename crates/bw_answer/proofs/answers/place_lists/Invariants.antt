use Rattle.std.proofs.Common.{◌≡◌, flat_map}
use Rattle.bw_answer.specs.Sections.{with_answers_from, ArePlacesFrom}
use Rattle.bw_answer.proofs.answers.place_lists.Given as goal

abbrev pub invariant-loop-list : goal.invariant-loop-list
invariant-loop-list l = record {
  same : with_answers_from l.fn.start l.replies (flat_map (λ list. list.items) l.list-iterator.rest.items) ≡ with_answers_from l.fn.start l.fn.replies (flat_map (λ list. list.items) l.fn.lists.items);
  there : ArePlacesFrom l.fn.start l.replies (flat_map (λ list. list.items) l.list-iterator.rest.items);
}
