-- The levels of a tree, the lowest first: what it takes for pages to form them, and where a key is at home.
use Rattle.std.specs.Prelude.{◌≡◌, ℕ, zero, suc, ◌-◌, ◌<◌, T, List, [], ◌∷◌, ◌++◌, length, Option, Some, None, slice_index_or}
use Rattle.std.specs.List.{Contains}
use Rattle.bw_key.specs.Order.{KeyBytes}
use Rattle.bw_model.specs.Contents.{is_below_end}
use Rattle.bw_page.specs.Inners.{IsUpto}
use Rattle.bw_level.specs.Walk.{Leads, walked, ended}
use Rattle.bw_level.specs.Slots.{Slot, PageState, Free, Gone, Live, slot_at, side_of, left_of}
use Rattle.bw_level.specs.Slots.{level_of, slot_level, children_of, IsSoundPage}

-- the page p is of this level, with these bounds and this side link
pub record Stands (slots : List Slot) (level : ℕ) (low : KeyBytes) (high : Option KeyBytes) (side : Option ℕ)
    (p : ℕ) : Type 0 where
  pub state : PageState
  pub is : slot_at slots p ≡ Live state
  pub sound : IsSoundPage state
  pub at_level : level_of state.body ≡ level
  pub from_low : state.low ≡ low
  pub to_high : state.high ≡ high
  pub linked : state.side ≡ side

-- Pages side by side from a low key on: each ends where the next begins and its side link names the next, and
-- the last has no end.
abbrev pub SideBySide : List Slot → ℕ → KeyBytes → List ℕ → Type 0
SideBySide slots level low [] = ⊥
SideBySide slots level low (p ∷ []) = Stands slots level low None None p
SideBySide slots level low (p ∷ q ∷ ps) =
    (high : KeyBytes) × Stands slots level low (Some high) (Some q) p × SideBySide slots level high (q ∷ ps)

-- A child with this separator is a page of the level below whose low key isn't above it, or a removed page
-- whose left links lead to such a page.
pub record LeadsBelow (slots : List Slot) (below : List ℕ) (separator : KeyBytes) (child : ℕ) : Type 0 where
  pub removed : List ℕ
  pub page : ℕ
  pub way : Leads (left_of slots) child removed page
  pub in_level : Contains below page
  pub state : PageState
  pub is : slot_at slots page ≡ Live state
  pub from_low : IsUpto state.low separator

abbrev pub row : List (List ℕ) → ℕ → List ℕ
row levels n = slice_index_or levels n []

-- the page that a list of pages begins with
abbrev pub BeginsWith : List ℕ → ℕ → Type 0
BeginsWith [] p = ⊥
BeginsWith (x ∷ xs) p = x ≡ p

abbrev pub StartsWith : List (KeyBytes × ℕ) → KeyBytes → ℕ → Type 0
StartsWith [] k c = ⊥
StartsWith (e ∷ es) k c = e ≡ (k, c)

-- the first child
abbrev pub FirstChild : List Slot → ℕ → ℕ → Type 0
FirstChild slots p child =
    (s : PageState) × (slot_at slots p ≡ Live s) × ((k : KeyBytes) × StartsWith (children_of s.body) k child)

-- the first child of a level's first page is the first page of the level below
abbrev pub FirstsLead : List Slot → List (List ℕ) → Type 0
FirstsLead slots levels =
    (n p c : ℕ) → suc n < length levels → BeginsWith (row levels (suc n)) p → FirstChild slots p c →
    BeginsWith (row levels n) c

-- each child of a level's pages leads to the level below
abbrev pub TermsLead : List Slot → List (List ℕ) → Type 0
TermsLead slots levels =
    (n p : ℕ) (s : PageState) (k : KeyBytes) (c : ℕ) → suc n < length levels → Contains (row levels (suc n)) p →
    slot_at slots p ≡ Live s → Contains (children_of s.body) (k, c) → LeadsBelow slots (row levels n) k c

-- These are the levels under the root: the top one begins with the root and each other one with the first child of
-- the first page of the level above. Each goes on by side links, from the least key to no end.
pub record AreLevels (slots : List Slot) (root : ℕ) (levels : List (List ℕ)) : Type 0 where
  pub some : 0 < length levels
  pub top : BeginsWith (row levels (length levels - 1)) root
  pub rows : (n : ℕ) → n < length levels → SideBySide slots n [] (row levels n)
  pub firsts : FirstsLead slots levels
  pub terms : TermsLead slots levels

-- a page of a level whose low key isn't above the key
pub record IsReached (slots : List Slot) (levels : List (List ℕ)) (key : KeyBytes) (level p : ℕ) : Type 0 where
  pub within : level < length levels
  pub in_level : Contains (row levels level) p
  pub state : PageState
  pub is : slot_at slots p ≡ Live state
  pub from_low : IsUpto state.low key

-- the page of a level whose range has the key
pub record IsHomeAt (slots : List Slot) (levels : List (List ℕ)) (key : KeyBytes) (level p : ℕ) : Type 0 where
  pub reached : IsReached slots levels key level p
  pub ends_above : T (is_below_end reached.state.high key)

-- the page of the leaf level whose range has the key
abbrev pub IsHome : List Slot → List (List ℕ) → KeyBytes → ℕ → Type 0
IsHome slots levels key p = IsHomeAt slots levels key 0 p

-- the one page of the leaf level whose range has the key
abbrev pub IsOneHome : List Slot → List (List ℕ) → KeyBytes → ℕ → Type 0
IsOneHome slots levels key p = IsHome slots levels key p × ((q : ℕ) → IsHome slots levels key q → q ≡ p)

-- a page and those that its side link leads to
abbrev pub row_from : List Slot → ℕ → List ℕ
row_from slots p = walked (side_of slots) (length slots) p ++ ended (side_of slots) (length slots) p ∷ []

abbrev pub first_of : List (KeyBytes × ℕ) → ℕ → ℕ
first_of [] p = p
first_of (c ∷ cs) p = c.1

abbrev pub first_child : Slot → ℕ → ℕ
first_child (Live s) p = first_of (children_of s.body) p
first_child (Gone l) p = p
first_child Free p = p

-- the levels from a page down, before those above them
unfoldable pub levels_down : List Slot → ℕ → ℕ → List (List ℕ) → List (List ℕ)
levels_down slots zero p above = row_from slots p ∷ above
levels_down slots (suc n) p above = levels_down slots n (first_child (slot_at slots p) p) (row_from slots p ∷ above)

abbrev pub levels_under : List Slot → ℕ → List (List ℕ)
levels_under slots root = levels_down slots (slot_level (slot_at slots root)) root []
