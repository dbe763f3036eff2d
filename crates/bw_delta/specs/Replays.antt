-- The pairs of a page as of a stamp that rises.
use Rattle.std.specs.Prelude.{◌≡◌, ℕ, ◌≤◌, T, List, Option}
use Rattle.std.specs.FinMap.{find}
use Rattle.bw_key.specs.Order.{KeyBytes, key_cmp}
use Rattle.bw_model.specs.Contents.{is_below_end}
use Rattle.bw_model.specs.Values.{ValueBytes}
use Rattle.bw_delta.specs.Writes.{WriteView}
use Rattle.bw_delta.specs.History.{history, action_at}
use Rattle.bw_delta.specs.Batches.{writes_to}
use Rattle.bw_delta.specs.Rising.{HasRisingStamps}

-- the pairs as of the stamp, and the writes from that stamp on
pub record ReplayView : Type 0 where
  pub stamp : ℕ
  pub pairs : List (KeyBytes × ValueBytes)
  pub rest : List WriteView

-- the value at a key as of the replay's stamp or a later one
abbrev pub replayed_value : ReplayView → ℕ → KeyBytes → Option ValueBytes
replayed_value replay stamp key = history (find key_cmp key replay.pairs) (action_at (writes_to key replay.rest)) stamp

-- at each key below the end, and as of each stamp from its own on, the replay has what the writes make of the value at
-- the start
pub record IsReplayOf (start : KeyBytes → Option ValueBytes) (high : Option KeyBytes) (writes : List WriteView)
    (replay : ReplayView) : Type 0 where
  pub rising : HasRisingStamps replay.stamp replay.rest
  pub values : (key : KeyBytes) (stamp : ℕ) → T (is_below_end high key) → replay.stamp ≤ stamp →
      replayed_value replay stamp key ≡ history (start key) (action_at (writes_to key writes)) stamp

-- as of each stamp from its own on and up to this one, it has the pairs that it has now
abbrev pub StaysUntil : ReplayView → ℕ → Type 0
StaysUntil replay until =
    (key : KeyBytes) (stamp : ℕ) → replay.stamp ≤ stamp → stamp ≤ until →
    replayed_value replay stamp key ≡ find key_cmp key replay.pairs
