use Rattle.std.proofs.Common.{◌≡◌, ◌++◌, map}
use Rattle.std.specs.List.{AllByRecursion}
use Rattle.bw_answer.specs.Replies.{answer_of}
use Rattle.bw_answer.proofs.shared_leaves.finish_scans.Given as goal

abbrev pub invariant-loop-scan : goal.invariant-loop-scan
invariant-loop-scan l = record {
  same : l.reading.tree ≡ l.fn.tree;
  trees : AllByRecursion (λ scan. scan.cursor.tree ≡ l.fn.tree) l.scan-iterator.rest.items;
  answered : l.answers.items ++ map answer_of l.scan-iterator.rest.items ≡ l.fn.answers.items ++ map answer_of l.fn.scans.items;
}
