-- Limits of pages, and which leaves keep to them.
use Rattle.std.specs.Prelude.{ℕ, ◌+◌, ◌≤◌, ◌⊎◌, List, length}
use Rattle.std.specs.List.{Contains}
use Rattle.bw_level.specs.Levels.{row}
use Rattle.bw_level.specs.Reading.{pairs_under, writes_over}
use Rattle.bw_level.specs.Slots.{Slot, slot_at}
use Rattle.bw_look.specs.Shapes.{pairs_on}
use Rattle.bw_look.specs.View.{TreeView}

-- how many writes a leaf's chain may have, how many entries a page, and below how many a page is merged
pub record LimitsView : Type 0 where
  pub chain_max : ℕ
  pub page_max : ℕ
  pub page_min : ℕ

pub record AreLimits (limits : LimitsView) : Type 0 where
  pub short_chain : limits.chain_max ≤ 1024
  pub some_page : 4 ≤ limits.page_max
  pub small_page : limits.page_max ≤ 4096
  pub half_page : limits.page_min + limits.page_min ≤ limits.page_max

-- a leaf has no more writes over its base page, and no more pairs under them, than it may have
abbrev pub IsWithin : LimitsView → Slot → Type 0
IsWithin limits slot =
    (length (writes_over slot) ≤ limits.chain_max) × (length (pairs_under slot) ≤ limits.page_max)

-- each leaf is within the limits, or is one of these pages
abbrev pub AreWithinBut : LimitsView → TreeView → List ℕ → Type 0
AreWithinBut limits tree pages =
    (p : ℕ) → Contains (row tree.levels 0) p → Contains pages p ⊎ IsWithin limits (slot_at tree.slots p)

-- no leaf has more pairs than a base page and the writes over it may have together
abbrev pub HoldFew : LimitsView → TreeView → Type 0
HoldFew limits tree = (p : ℕ) → Contains (row tree.levels 0) p →
    pairs_on tree (slot_at tree.slots p) ≤ limits.page_max + limits.chain_max
