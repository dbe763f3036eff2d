-- Pages that the level above doesn't name yet.
use Rattle.std.specs.Prelude.{◌≡◌, ℕ, suc, ◌<◌, length, Some}
use Rattle.std.specs.List.{Contains}
use Rattle.bw_key.specs.Order.{KeyBytes}
use Rattle.bw_level.specs.Children.{HasChildAt}
use Rattle.bw_level.specs.Levels.{IsHomeAt, row}
use Rattle.bw_level.specs.Scans.{high_of}
use Rattle.bw_level.specs.Slots.{side_of, slot_at}
use Rattle.bw_look.specs.View.{TreeView}

-- The right neighbour q of the page p begins at this key, which on the level above is at home on a page that doesn't name
-- q there.
pub record IsUnnamed (tree : TreeView) (p parent : ℕ) (sep : KeyBytes) (q : ℕ) : Type 0 where
  pub level : ℕ
  pub within : level < length tree.levels
  pub in_level : Contains (row tree.levels level) p
  pub ends : high_of (slot_at tree.slots p) ≡ Some sep
  pub linked : side_of tree.slots p ≡ Some q
  pub home : IsHomeAt tree.slots tree.levels sep (suc level) parent
  pub unnamed : HasChildAt (slot_at tree.slots parent) sep q → ⊥

-- the page has no such right neighbour
abbrev pub HasNoUnnamed : TreeView → ℕ → Type 0
HasNoUnnamed tree p = (parent q : ℕ) (sep : KeyBytes) → IsUnnamed tree p parent sep q → ⊥
