-- What a batch of operations writes, each with its stamp, and the law that reading as of a stamp rests on.
use Rattle.std.specs.Prelude.{◌≡◌, ℕ, ◌+◌, List, [], ◌∷◌, ◌++◌, length, take, Option, Some, None, filter}
use Rattle.std.specs.FinMap.{get}
use Rattle.bw_key.specs.Order.{KeyBytes, key_eq}
use Rattle.bw_model.specs.Contents.{Contents}
use Rattle.bw_model.specs.Values.{ValueBytes}
use Rattle.bw_model.specs.Model.{contents_after}
use Rattle.bw_model.specs.declared.operations.Action.{Action}
use Rattle.bw_model.specs.declared.operations.Action.TheVariants as action
use Rattle.bw_model.specs.declared.operations.Op.{Op}
use Rattle.bw_model.specs.declared.operations.Op.TheVariants.{Get, Insert, Upsert, Update, Delete, SwapIf, Scan, Rscan}
use Rattle.bw_delta.specs.Writes.{WriteView}
use Rattle.bw_delta.specs.History.{history, action_at}

-- where an operation writes, and what it does there
abbrev pub write_of : Op → Option (KeyBytes × Action)
write_of (Get key) = None
write_of (Insert key v) = Some (key, action.Insert v)
write_of (Upsert key v) = Some (key, action.Upsert v)
write_of (Update key v) = Some (key, action.Update v)
write_of (Delete key) = Some (key, action.Delete)
write_of (SwapIf key old new) = Some (key, action.SwapIf old new)
write_of (Scan from to most) = None
write_of (Rscan from to most) = None

-- how many bytes the key and the values of an operation have that writes
abbrev pub write_size : Op → ℕ
write_size (Get key) = 0
write_size (Insert key v) = length key + length v
write_size (Upsert key v) = length key + length v
write_size (Update key v) = length key + length v
write_size (Delete key) = length key
write_size (SwapIf key old new) = length key + length old + length new
write_size (Scan from to most) = 0
write_size (Rscan from to most) = 0

abbrev pub stamped : ℕ → Option (KeyBytes × Action) → List WriteView
stamped stamp None = []
stamped stamp (Some write) = record { stamp = stamp; key = write.0; action = write.1 } ∷ []

-- the writes of a batch: that of the operation at place i has the stamp base + i
abbrev pub writes_of : ℕ → List Op → List WriteView
writes_of base [] = []
writes_of base (op ∷ ops) = stamped base (write_of op) ++ writes_of (base + 1) ops

-- the writes at a key
abbrev pub writes_to : KeyBytes → List WriteView → List WriteView
writes_to key ws = filter (λ w. key_eq key w.key) ws

-- After the first i operations of a batch, the value at a key is the history of the batch's writes there, as of
-- base + i, over the value before the batch.
abbrev pub ContentsAreHistory : Type 0
ContentsAreHistory = (ops : List Op) (m : Contents ValueBytes) (base i : ℕ) (key : KeyBytes) →
    get (contents_after (take i ops) m) key
    ≡ history (get m key) (action_at (writes_to key (writes_of base ops))) (base + i)
