-- Removed pages, and the pages that still name them.
use Rattle.std.specs.Prelude.{◌≡◌, ℕ, suc, List}
use Rattle.std.specs.List.{Contains}
use Rattle.bw_page.specs.declared.pages.RemovedPage.{RemovedPage}
use Rattle.bw_level.specs.Children.{HasChildAt}
use Rattle.bw_level.specs.Slots.{Slot, Gone, slot_at}
use Rattle.bw_look.specs.Routing.{IsInLevel}
use Rattle.bw_look.specs.View.{TreeView}

-- each removed page is among these
abbrev pub HasEachRemoved : List Slot → List ℕ → Type 0
HasEachRemoved slots pages = (p : ℕ) (removed : RemovedPage) → slot_at slots p ≡ Gone removed → Contains pages p

-- This page of the level above still names a page that was removed, at the key where that one began.
pub record IsNamerOfRemoved (tree : TreeView) (p parent : ℕ) : Type 0 where
  pub removed : RemovedPage
  pub is : slot_at tree.slots p ≡ Gone removed
  pub above : IsInLevel tree parent (suc removed.level)
  pub named : HasChildAt (slot_at tree.slots parent) removed.low p

-- the page isn't a removed one, or none still names it
abbrev pub HasNoNamerOfRemoved : TreeView → ℕ → Type 0
HasNoNamerOfRemoved tree p = (parent : ℕ) → IsNamerOfRemoved tree p parent → ⊥
