-- Where a search stands on its way, and where one may begin.
use Rattle.std.specs.Prelude.{◌≡◌, ℕ, ◌+◌, ◌<◌, ◌≤◌, true, false, List, length, Option, Some, None, slice_index_or}
use Rattle.std.specs.List.{Contains}
use Rattle.bw_key.specs.Order.{KeyBytes}
use Rattle.bw_page.specs.Inners.{InnerView}
use Rattle.bw_page.specs.declared.pages.Page.TheVariants.{Inner as InnerPage}
use Rattle.bw_level.specs.declared.target.Target.{Target}
use Rattle.bw_level.specs.Walk.{Leads, ended}
use Rattle.bw_level.specs.Slots.{Slot, PageState, Live, left_of, slot_at, slot_level}
use Rattle.bw_level.specs.Levels.{IsReached, row}
use Rattle.bw_level.specs.Changes.{plain}
use Rattle.bw_level.specs.Targets.{PartsChildren, StandsOnAll, lies_from}

-- A search for a key stands at a page of a level whose low key isn't above the key, or at a removed page whose
-- left links lead to such a page.
pub record Sought (slots : List Slot) (levels : List (List ℕ)) (key : KeyBytes) (p : ℕ) : Type 0 where
  pub level : ℕ
  pub removed : List ℕ
  pub page : ℕ
  pub way : Leads (left_of slots) p removed page
  pub reached : IsReached slots levels key level page

-- each key that stands for what is sought is sought at the page
abbrev pub IsSearching : List Slot → List (List ℕ) → Target → ℕ → Type 0
IsSearching slots levels target p = (key : KeyBytes) → StandsOnAll slots target key → Sought slots levels key p

-- an inner page as it stands, with no change over it
abbrev pub plain_inner : InnerView → Slot
plain_inner inner = plain (InnerPage inner)

-- a page of a level
pub record IsInLevels (levels : List (List ℕ)) (p : ℕ) : Type 0 where
  pub level : ℕ
  pub within : level < length levels
  pub in_level : Contains (row levels level) p

-- each page stands on a level
abbrev pub AllStand : List Slot → List (List ℕ) → Type 0
AllStand slots levels = (p : ℕ) (state : PageState) → slot_at slots p ≡ Live state → IsInLevels levels p

-- the place of the last separator that what is sought isn't before, if there is one
abbrev pub IsPlaceFor : Target → List (KeyBytes × ℕ) → Option ℕ → Type 0
IsPlaceFor target children None = PartsChildren target children 0
IsPlaceFor target children (Some place) = (place < length children) × PartsChildren target children (place + 1)

-- what is sought isn't before the separator at a place
abbrev pub IsFromPlace : Target → List (KeyBytes × ℕ) → ℕ → Type 0
IsFromPlace target children place =
    (d : KeyBytes × ℕ) → lies_from target (slice_index_or children place d).0 ≡ true

-- What is sought isn't before the separators below `start`, and is before those from `end` on.
pub record IsStretch (target : Target) (children : List (KeyBytes × ℕ)) (start end : ℕ) : Type 0 where
  pub ordered : start ≤ end
  pub within : end ≤ length children
  pub behind : (i : ℕ) (d : KeyBytes × ℕ) → i < start → lies_from target (slice_index_or children i d).0 ≡ true
  pub before : (i : ℕ) (d : KeyBytes × ℕ) → end ≤ i → i < length children →
      lies_from target (slice_index_or children i d).0 ≡ false

-- the level on which a search goes on from a page: that of the page to which its left links lead
abbrev pub level_at : List Slot → ℕ → ℕ
level_at slots p = slot_level (slot_at slots (ended (left_of slots) (length slots) p))
