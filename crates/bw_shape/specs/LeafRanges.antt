-- The leaves of a tree, in the order of keys, each with its range.
use Rattle.std.specs.Prelude.{ℕ, List, Option, map}
use Rattle.bw_key.specs.Order.{KeyBytes}
use Rattle.bw_level.specs.Before.{low_of}
use Rattle.bw_level.specs.Levels.{row}
use Rattle.bw_level.specs.Scans.{high_of}
use Rattle.bw_level.specs.Slots.{Slot, slot_at}
use Rattle.bw_look.specs.View.{TreeView}

-- a leaf has the keys from its low one on and below its high one, if there is one
pub record LeafRange : Type 0 where
  pub page : ℕ
  pub low : KeyBytes
  pub high : Option KeyBytes

abbrev pub leaf_range : List Slot → ℕ → LeafRange
leaf_range slots p = record { page = p; low = low_of (slot_at slots p); high = high_of (slot_at slots p) }

abbrev pub leaf_ranges : TreeView → List LeafRange
leaf_ranges tree = map (leaf_range tree.slots) (row tree.levels 0)
