-- The pairs of a page as of a stamp: those of its parts, under the writes of its chain.
use Rattle.std.specs.Prelude.{◌≡◌, ℕ, T, List, [], ◌∷◌, Option, None, map, if◌then◌else◌}
use Rattle.std.specs.Borrow.{Bor}
use Rattle.std.specs.Option.{option_or}
use Rattle.std.specs.FinMap.{find, is_sorted}
use Rattle.bw_key.specs.Order.{KeyBytes, key_cmp}
use Rattle.bw_model.specs.Contents.{is_in_range}
use Rattle.bw_model.specs.Values.{ValueBytes}
use Rattle.bw_page.specs.Leaves.{LeafView}
use Rattle.bw_delta.specs.Writes.{WriteView}
use Rattle.bw_delta.specs.History.{history, action_at}
use Rattle.bw_delta.specs.Batches.{writes_to}

-- the leaves that references point to
abbrev pub parts_of : List (Bor (LeafView ValueBytes)) → List (LeafView ValueBytes)
parts_of = map (λ part. part.now)

-- the value at a key in the first part that has it
abbrev pub value_in_parts : {V : Type 0} → List (LeafView V) → KeyBytes → Option V
value_in_parts [] key = None
value_in_parts (part ∷ parts) key = option_or (find key_cmp key part.pairs) (value_in_parts parts key)

-- the value at a key as of a stamp: the history of the writes there, over the value in the parts
abbrev pub latest_value : List (LeafView ValueBytes) → List WriteView → ℕ → KeyBytes → Option ValueBytes
latest_value parts writes stamp key = history (value_in_parts parts key) (action_at (writes_to key writes)) stamp

-- the sorted list of the keys of a range that have a value as of the stamp, each with it
pub record ArePairsAsOf (parts : List (LeafView ValueBytes)) (low : KeyBytes) (high : Option KeyBytes)
    (writes : List WriteView) (stamp : ℕ) (pairs : List (KeyBytes × ValueBytes)) : Type 0 where
  pub sorted : T (is_sorted key_cmp pairs)
  pub values : (key : KeyBytes) → find key_cmp key pairs
      ≡ (if is_in_range low high key then latest_value parts writes stamp key else None)
