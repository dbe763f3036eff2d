use Rattle.std.proofs.Common.{◌≡◌, length, None}
use Rattle.std.specs.List.{AllByRecursion}
use Rattle.bw_delta.specs.Batches.{write_of}
use Rattle.bw_answer_tests.proofs.tests.making.reads.Given as goal

abbrev pub invariant-loop-number : goal.invariant-loop-number
invariant-loop-number g l = record {
  len : length l.ops.items ≡ l.number;
  reads : AllByRecursion (λ op. write_of op ≡ None) l.ops.items;
}
