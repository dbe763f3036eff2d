use Rattle.std.proofs.Common.{◌≡◌, map, take}
use Rattle.std.specs.List.{AllByRecursion}
use Rattle.bw_answer.specs.Replies.{answer_of, answers_to}
use Rattle.bw_answer.proofs.batch_reader.BatchReader.scans_at.Given as goal

abbrev pub invariant-loop-place : goal.invariant-loop-place
invariant-loop-place l = record {
  trees : AllByRecursion (λ scan. scan.cursor.tree ≡ l.self.tree) l.scans.items;
  answered : map answer_of l.scans.items ≡ answers_to l.self (take l.place-index l.places);
}
