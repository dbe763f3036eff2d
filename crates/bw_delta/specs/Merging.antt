-- Sorted pairs, merged with writes that are sorted by key.
use Rattle.std.specs.Prelude.{◌≡◌, ℕ, nat_lt, Bool, true, false, ◌&&◌, T, List, [], ◌∷◌, ◌++◌, Option, Some, None}
use Rattle.std.specs.List.{list_all}
use Rattle.std.specs.Ordering.{is_lt}
use Rattle.std.specs.FinMap.{find, is_sorted}
use Rattle.std.specs.FinMap.Entries.{below_all}
use Rattle.bw_key.specs.Order.{KeyBytes, key_cmp}
use Rattle.bw_model.specs.Contents.{is_in_range}
use Rattle.bw_model.specs.Values.{Pair, ValueBytes}
use Rattle.bw_model.specs.Actions.{effect}
use Rattle.bw_delta.specs.Writes.{WriteView}
use Rattle.bw_delta.specs.Batches.{writes_to}

-- whether a write is below a stamp, and its key in a range
abbrev pub is_due : KeyBytes → Option KeyBytes → ℕ → WriteView → Bool
is_due low high stamp w = nat_lt w.stamp stamp && is_in_range low high w.key

-- what writes leave of a value, one after another
abbrev pub after_writes : Option ValueBytes → List WriteView → Option ValueBytes
after_writes value [] = value
after_writes value (w ∷ ws) = after_writes (effect w.action value) ws

-- the value at a key, once the writes of the key had their effects on these pairs
abbrev pub merged_value : List Pair → List WriteView → KeyBytes → Option ValueBytes
merged_value pairs writes key = after_writes (find key_cmp key pairs) (writes_to key writes)

-- the keys of the writes don't fall, and none is below this one
abbrev pub AreFrom : KeyBytes → List WriteView → Type 0
AreFrom key [] = Unit {0}
AreFrom key (w ∷ ws) = (is_lt (key_cmp w.key key) ≡ false) × AreFrom w.key ws

-- the same, and all are above it
abbrev pub AreBehind : KeyBytes → List WriteView → Type 0
AreBehind key [] = Unit {0}
AreBehind key (w ∷ ws) = (is_lt (key_cmp key w.key) ≡ true) × AreFrom w.key ws

-- the keys of the pairs are below this one
abbrev pub AreBelow : {V : Type 0} → KeyBytes → List (KeyBytes × V) → Type 0
AreBelow key pairs = T (list_all (λ pair. is_lt (key_cmp pair.0 key)) pairs)

-- the keys of the writes don't fall, and all are above those of the pairs
abbrev pub ArePast : List Pair → List WriteView → Type 0
ArePast pairs [] = Unit {0}
ArePast pairs (w ∷ ws) = AreBelow w.key pairs × AreFrom w.key ws

-- these pairs behind the one at a key, where the key has a value
abbrev pub with_value : {V : Type 0} → KeyBytes → Option V → List (KeyBytes × V) → List (KeyBytes × V)
with_value key None pairs = pairs
with_value key (Some value) pairs = (key, value) ∷ pairs

-- sorted pairs, cut at a key: those below it, its value, and those behind it
pub record AreCutAt (pairs : List Pair) (key : KeyBytes) (before : List Pair) (value : Option ValueBytes)
    (behind : List Pair) : Type 0 where
  pub whole : pairs ≡ before ++ with_value key value behind
  pub below : AreBelow key before
  pub above : T (below_all key_cmp key behind)

-- a merge on its way: the list ends below the pairs and the writes that are left
pub record IsMerging (merged rest : List Pair) (writes : List WriteView) : Type 0 where
  pub sorted : T (is_sorted key_cmp (merged ++ rest))
  pub past : ArePast merged writes
