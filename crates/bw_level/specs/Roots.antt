-- The root grows: a new page one level above it has the root and its right neighbour as its children. Or its only child
-- takes its place, and the root is a removed page.
use Rattle.std.specs.Prelude.{◌≡◌, ℕ, suc, ◌-◌, List, [], ◌∷◌, ◌++◌, length, take, Some, None}
use Rattle.bw_key.specs.Order.{KeyBytes}
use Rattle.bw_page.specs.declared.pages.RemovedPage.{RemovedPage}
use Rattle.bw_level.specs.Slots.{Slot, PageState, Children, Free, Gone, Live, children_of, level_of, side_of_slot, slot_at, slot_level}
use Rattle.bw_level.specs.Scans.{high_of}

-- two children: one for the keys below this one, and one for those from there on
abbrev pub two_children : ℕ → KeyBytes → ℕ → List (KeyBytes × ℕ)
two_children left key right = ([], left) ∷ (key, right) ∷ []

-- a page of this level over two, for all keys
abbrev pub root_over : ℕ → ℕ → KeyBytes → ℕ → PageState
root_over level left key right =
    record { low = []; high = None; side = None; body = Children level (two_children left key right) }

-- The root has a right neighbour, and the page t, which was free, is over both. All other pages are as before.
pub record IsGrown (old new : List Slot) (root t : ℕ) : Type 0 where
  pub was : PageState
  pub is : slot_at old root ≡ Live was
  pub high : KeyBytes
  pub ends : was.high ≡ Some high
  pub side : ℕ
  pub linked : was.side ≡ Some side
  pub free : slot_at old t ≡ Free
  pub top : slot_at new t ≡ Live (root_over (suc (level_of was.body)) root high side)
  pub others : (r : ℕ) → (r ≡ t → ⊥) → slot_at new r ≡ slot_at old r

-- the levels with one more, which has this page alone
abbrev pub levels_grown : List (List ℕ) → ℕ → List (List ℕ)
levels_grown levels t = levels ++ (t ∷ []) ∷ []

-- the root has this child alone, and no right neighbour
pub record HasOneChild (slots : List Slot) (root child : ℕ) : Type 0 where
  pub state : PageState
  pub is : slot_at slots root ≡ Live state
  pub alone : state.side ≡ None
  pub key : KeyBytes
  pub only : children_of state.body ≡ (key, child) ∷ []

-- what is left of a root of this level that was removed into its only child
abbrev pub removed_root : ℕ → ℕ → RemovedPage
removed_root level child = record { left = child; level = level; low = [] }

-- The root has this child alone, into which it was removed. All other pages are as before.
pub record IsRootRemoved (old new : List Slot) (root child : ℕ) : Type 0 where
  pub one : HasOneChild old root child
  pub gone : slot_at new root ≡ Gone (removed_root (slot_level (slot_at old root)) child)
  pub others : (r : ℕ) → (r ≡ root → ⊥) → slot_at new r ≡ slot_at old r

-- the levels without the highest one
abbrev pub levels_lowered : List (List ℕ) → List (List ℕ)
levels_lowered levels = take (length levels - 1) levels

-- a page's level, where its range ends, and its right neighbour
pub record IsNeighbour (slot : Slot) (level : ℕ) (high : KeyBytes) (side : ℕ) : Type 0 where
  pub at_level : slot_level slot ≡ level
  pub ends : high_of slot ≡ Some high
  pub linked : side_of_slot slot ≡ Some side
