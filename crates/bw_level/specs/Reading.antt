-- The value at a key as of a stamp, on the page where the key is at home.
use Rattle.std.specs.Prelude.{◌≡◌, ℕ, T, List, [], flat_map, Option}
use Rattle.std.specs.FinMap.{find, from_entries}
use Rattle.bw_key.specs.Order.{KeyBytes, key_cmp}
use Rattle.bw_model.specs.Contents.{Contents, is_below_end}
use Rattle.bw_model.specs.Values.{ValueBytes}
use Rattle.bw_delta.specs.Writes.{WriteView}
use Rattle.bw_delta.specs.Batches.{writes_to}
use Rattle.bw_delta.specs.History.{history, action_at}
use Rattle.bw_delta.specs.ContentsAsOf.{contents_as_of}
use Rattle.bw_level.specs.Levels.{row}
use Rattle.bw_level.specs.Slots.{Slot, Body, Pairs, Children, Free, Gone, Live, slot_at}

abbrev pub body_writes : Body → List WriteView
body_writes (Pairs pairs writes) = writes
body_writes (Children level children) = []

-- the writes over a leaf
abbrev pub writes_over : Slot → List WriteView
writes_over (Live s) = body_writes s.body
writes_over (Gone l) = []
writes_over Free = []

abbrev pub body_pairs : Body → List (KeyBytes × ValueBytes)
body_pairs (Pairs pairs writes) = pairs
body_pairs (Children level children) = []

-- the pairs under the writes
abbrev pub pairs_under : Slot → List (KeyBytes × ValueBytes)
pairs_under (Live s) = body_pairs s.body
pairs_under (Gone l) = []
pairs_under Free = []

-- the value under the writes
abbrev pub base_of : Slot → KeyBytes → Option ValueBytes
base_of slot key = find key_cmp key (pairs_under slot)

-- a page's range doesn't end at the key or before it
abbrev pub EndsAbove : Slot → KeyBytes → Type 0
EndsAbove (Live s) key = T (is_below_end s.high key)
EndsAbove (Gone l) key = Unit {0}
EndsAbove Free key = Unit {0}

-- these pairs have the values under the writes, at each key before the page's end
abbrev pub HasPairsUnder : Slot → List (KeyBytes × ValueBytes) → Type 0
HasPairsUnder slot pairs = (key : KeyBytes) → EndsAbove slot key → base_of slot key ≡ find key_cmp key pairs

-- the value at a key of the page's range: what the writes to it with a smaller stamp, in the order of their
-- stamps, make of the value under them
abbrev pub value_in : Slot → KeyBytes → ℕ → Option ValueBytes
value_in slot key stamp = history (base_of slot key) (action_at (writes_to key (writes_over slot))) stamp

-- the pairs under the writes of pages
abbrev pub row_pairs : List Slot → List ℕ → List (KeyBytes × ValueBytes)
row_pairs slots ps = flat_map (λ p. pairs_under (slot_at slots p)) ps

-- the writes over pages
abbrev pub row_writes : List Slot → List ℕ → List WriteView
row_writes slots ps = flat_map (λ p. writes_over (slot_at slots p)) ps

-- what levels hold as of a stamp: the writes over their leaves, in the order of their stamps, over the pairs under them
abbrev pub contents_in : List Slot → List (List ℕ) → ℕ → Contents ValueBytes
contents_in slots levels stamp =
    let leaves = row levels 0 in
    contents_as_of (from_entries (row_pairs slots leaves)) (row_writes slots leaves) stamp
