use Rattle.std.proofs.Common.{◌≡◌, ◌++◌, flat_map}
use Rattle.std.specs.List.{AllByRecursion}
use Rattle.bw_answer.specs.Sections.{replies_in, HasReplies}
use Rattle.bw_answer.proofs.sections.joined.Given as goal

abbrev pub invariant-loop-section : goal.invariant-loop-section
invariant-loop-section l = record {
  same : l.replies.items ++ flat_map replies_in l.section-iterator.rest.items ≡ flat_map replies_in l.fn.sections.items;
  made : AllByRecursion HasReplies l.section-iterator.rest.items → AllByRecursion HasReplies l.fn.sections.items;
}
