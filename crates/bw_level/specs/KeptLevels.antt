-- What a change of pages keeps of a tree: its levels, and what it holds.
use Rattle.std.specs.Prelude.{◌≡◌, ℕ, suc, ◌<◌, List, [], length, ◌⊎◌}
use Rattle.std.specs.List.{Contains}
use Rattle.bw_key.specs.Order.{KeyBytes}
use Rattle.bw_level.specs.Slots.{Slot, PageState, Free, Gone, Live, slot_at, children_of, level_of, IsSoundPage}
use Rattle.bw_level.specs.Levels.{BeginsWith, FirstChild, LeadsBelow, SideBySide, row}

-- a page of the level above names the child with this separator
pub record IsTerm (slots : List Slot) (levels : List (List ℕ)) (n : ℕ) (separator : KeyBytes) (child : ℕ) : Type 0 where
  pub page : ℕ
  pub in_level : Contains (row levels (suc n)) page
  pub state : PageState
  pub is : slot_at slots page ≡ Live state
  pub named : Contains (children_of state.body) (separator, child)

-- it was one, and leads below where it led
pub record WasTerm (old new : List Slot) (levels levels' : List (List ℕ)) (n : ℕ) (k : KeyBytes) (c : ℕ) : Type 0 where
  pub was : IsTerm old levels n k c
  pub leads : LeadsBelow old (row levels n) k c → LeadsBelow new (row levels' n) k c

-- Pages change so that there are levels again, as many, and from the same first pages on: rows side by side, first
-- children that were first children, and other children that lead below, as they may that were children and led there.
pub record KeepsLevels (old new : List Slot) (levels levels' : List (List ℕ)) : Type 0 where
  pub count : length levels' ≡ length levels
  pub rows : (n : ℕ) → n < length levels → SideBySide new n [] (row levels' n)
  pub first : (n p : ℕ) → n < length levels → BeginsWith (row levels n) p → BeginsWith (row levels' n) p
  pub first_child : (n p c : ℕ) → suc n < length levels → BeginsWith (row levels (suc n)) p →
      FirstChild new p c → FirstChild old p c
  pub terms : (n : ℕ) (k : KeyBytes) (c : ℕ) → suc n < length levels → IsTerm new levels' n k c →
      WasTerm old new levels levels' n k c ⊎ LeadsBelow new (row levels' n) k c

-- there is a page with the same bounds, neighbour, level and children, which is sound where the other is
pub record IsAlike (s : PageState) (slot : Slot) : Type 0 where
  pub state : PageState
  pub is : slot ≡ Live state
  pub sound : IsSoundPage s → IsSoundPage state
  pub level : level_of state.body ≡ level_of s.body
  pub children : children_of state.body ≡ children_of s.body
  pub low : state.low ≡ s.low
  pub high : state.high ≡ s.high
  pub side : state.side ≡ s.side

-- pages that differ in pairs and writes alone
abbrev pub AreAlike : Slot → Slot → Type 0
AreAlike Free other = other ≡ Free
AreAlike (Gone l) other = other ≡ Gone l
AreAlike (Live s) other = IsAlike s other
