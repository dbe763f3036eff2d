-- Batches that only read.
use Rattle.std.proofs.Common.{◌≡◌, ℕ, zero, suc, List, [], ◌∷◌, take, Some, None, refl}
use Rattle.std.specs.List.{AllByRecursion}
use Rattle.bw_key.specs.Order.{KeyBytes}
use Rattle.bw_model.specs.Contents.{Contents}
use Rattle.bw_model.specs.Values.{ValueBytes}
use Rattle.bw_model.specs.Model.{contents_after}
use Rattle.bw_model.specs.declared.operations.Action.{Action}
use Rattle.bw_model.specs.declared.operations.Op.{Op}
use Rattle.bw_model.specs.declared.operations.Op.TheVariants.{Get, Insert, Upsert, Update, Delete, SwapIf, Scan, Rscan}
use Rattle.bw_delta.specs.Batches.{write_of}

-- reads leave a map
pub reads_leave : (ops : List Op) → AllByRecursion (λ op. write_of op ≡ None) ops → (i : ℕ) (m : Contents ValueBytes) → contents_after (take i ops) m ≡ m
reads_leave ops reads zero m = refl
reads_leave [] reads (suc i) m = refl
reads_leave (op ∷ ops) reads (suc i) m = by op reads.0 (reads_leave ops reads.1 i m)
  where
    no : {w : KeyBytes × Action} → Some w ≡ None → ⊥
    no e = cc

    by : (op : Op) → write_of op ≡ None → contents_after (take i ops) m ≡ m → contents_after (op ∷ take i ops) m ≡ m
    by (Get key) e rest = rest
    by (Insert key v) e rest = absurd (no e)
    by (Upsert key v) e rest = absurd (no e)
    by (Update key v) e rest = absurd (no e)
    by (Delete key) e rest = absurd (no e)
    by (SwapIf key old new) e rest = absurd (no e)
    by (Scan from to most) e rest = rest
    by (Rscan from to most) e rest = rest
