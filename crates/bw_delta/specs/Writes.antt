-- A write as contracts see it, and how it lies in memory.
use Rattle.std.specs.Prelude.{ℕ, List, [], ◌∷◌, take, drop, Option, Some, None}
use Rattle.bw_key.specs.Order.{KeyBytes}
use Rattle.bw_model.specs.Values.{ValueBytes}
use Rattle.bw_model.specs.declared.operations.Action.{Action}
use Rattle.bw_model.specs.declared.operations.Action.TheVariants as action
use Rattle.bw_delta.specs.declared.writes.WriteKind.{WriteKind}
use Rattle.bw_delta.specs.declared.writes.WriteKind.TheVariants.{Insert, Upsert, Update, Delete, SwapIf}

pub record WriteView : Type 0 where
  pub stamp : ℕ
  pub key : KeyBytes
  pub action : Action

-- the list of a write that is there, or of none
abbrev pub one_or_none : Option WriteView → List WriteView
one_or_none None = []
one_or_none (Some w) = w ∷ []

-- what a write of a kind does, which waits for one value and puts another, as far as it has them
abbrev pub action_of : WriteKind → ValueBytes → ValueBytes → Action
action_of Insert old new = action.Insert new
action_of Upsert old new = action.Upsert new
action_of Update old new = action.Update new
action_of Delete old new = action.Delete
action_of SwapIf old new = action.SwapIf old new

-- The write whose key and values lie in these bytes, one behind the other: so many bytes are the key, and so many the value
-- that it waits for.
abbrev pub unpacked : ℕ → WriteKind → ℕ → ℕ → List ℕ → WriteView
unpacked stamp kind key_len old_len bytes = record {
  stamp = stamp;
  key = take key_len bytes;
  action = action_of kind (take old_len (drop key_len bytes)) (drop old_len (drop key_len bytes));
}
