-- The pairs of a range of keys that lie on a page.
use Rattle.std.specs.Prelude.{◌≡◌, ℕ, ◌&&◌, T, List, Option, Some, None, if◌then◌else◌}
use Rattle.std.specs.FinMap.{find, is_sorted}
use Rattle.std.specs.Borrow.{Bor}
use Rattle.bw_key.specs.Order.{KeyBytes, key_cmp}
use Rattle.bw_model.specs.Contents.{is_below_end, is_in_range}
use Rattle.bw_model.specs.Values.{ValueBytes}
use Rattle.bw_page.specs.Leaves.{LeafView}
use Rattle.bw_page.specs.declared.pages.Page.TheVariants.{Leaf as LeafPage}
use Rattle.bw_delta.specs.declared.deltas.Delta.{Delta}
use Rattle.bw_level.specs.Changes.{Bases, plain}
use Rattle.bw_level.specs.Slots.{Slot, Free, Gone, Live, side_of_slot}
use Rattle.bw_delta.specs.Replays.{ReplayView, IsReplayOf}
use Rattle.bw_level.specs.Turns.{over}
use Rattle.bw_level.specs.Reading.{base_of, value_in, writes_over}

-- where a page's range ends
abbrev pub high_of : Slot → Option KeyBytes
high_of (Live s) = s.high
high_of (Gone l) = None
high_of Free = None

-- the value as of a stamp at a key of a range that is below the page's end
abbrev pub value_in_range : Slot → KeyBytes → Option KeyBytes → KeyBytes → ℕ → Option ValueBytes
value_in_range slot low high key stamp =
    if is_in_range low high key && is_below_end (high_of slot) key then value_in slot key stamp else None

-- the sorted list of the keys of a range that are below the page's end and have a value as of the stamp, each with it
pub record ArePairsOn (slot : Slot) (low : KeyBytes) (high : Option KeyBytes) (stamp : ℕ)
    (pairs : List (KeyBytes × ValueBytes)) : Type 0 where
  pub sorted : T (is_sorted key_cmp pairs)
  pub values : (key : KeyBytes) → find key_cmp key pairs ≡ value_in_range slot low high key stamp

-- each key below the second end is below the first
abbrev pub Reaches : Option KeyBytes → Option KeyBytes → Type 0
Reaches high to = (key : KeyBytes) → T (is_below_end to key) → T (is_below_end high key)

-- a range that ends at all, and below the second end
abbrev pub EndsBelow : Option KeyBytes → Option KeyBytes → Type 0
EndsBelow None to = ⊥
EndsBelow (Some k) to = T (is_below_end to k)

-- it replays a leaf's writes over the pairs under them
abbrev pub IsLeafReplay : Slot → ReplayView → Type 0
IsLeafReplay slot replay = IsReplayOf (base_of slot) (high_of slot) (writes_over slot) replay

-- the keys below it are those that are below both ends
abbrev pub IsLowerEnd : Option KeyBytes → Option KeyBytes → Option KeyBytes → Type 0
IsLowerEnd left right end = (key : KeyBytes) → is_below_end end key ≡ (is_below_end left key && is_below_end right key)

-- where the range of a leaf ends, which a change may lie over, with this right neighbour
abbrev pub EndsLeaf : Option (Bor Delta) → LeafView ValueBytes → Option KeyBytes → Option ℕ → Type 0
EndsLeaf delta leaf high side =
    (bases : Bases) →
    (high ≡ high_of (over bases delta (plain (LeafPage leaf)))) ×
    (side ≡ side_of_slot (over bases delta (plain (LeafPage leaf))))
