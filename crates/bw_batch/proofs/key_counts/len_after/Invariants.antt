use Rattle.std.proofs.Common.{◌≡◌, ◌≤◌, ◌+◌}
use Rattle.std.specs.FinMap.{len}
use Rattle.bw_model.specs.Contents.{Contents}
use Rattle.bw_model.specs.Model.{replies_of}
use Rattle.bw_model.specs.Values.{ValueBytes}
use Rattle.bw_batch.proofs.LenLemmas.{IsCounting}
use Rattle.bw_batch.proofs.key_counts.len_after.Given as goal

abbrev pub invariant-loop-place : goal.invariant-loop-place
invariant-loop-place l = record {
  most : l.now ≤ l.len + l.place;
  counting : (m : Contents ValueBytes) → len m ≡ l.len → l.replies ≡ replies_of l.ops m → IsCounting l.ops l.replies l.place l.now m;
}
