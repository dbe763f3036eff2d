use Rattle.std.proofs.Common.{◌≡◌}
use Rattle.bw_answer.specs.Sections.{with_answers_from, ArePlacesFrom}
use Rattle.bw_answer.proofs.answers.place_answers.Given as goal

abbrev pub invariant-loop-answer : goal.invariant-loop-answer
invariant-loop-answer l = record {
  same : with_answers_from l.fn.start l.replies l.answer-iterator.rest.items ≡ with_answers_from l.fn.start l.fn.replies l.fn.answers.items;
  there : ArePlacesFrom l.fn.start l.replies l.answer-iterator.rest.items;
}
