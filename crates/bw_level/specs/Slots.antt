-- The present state of each page: what its chain makes of its base page.
use Rattle.std.specs.Prelude.{◌≡◌, ℕ, Bool, true, false, T, List, [], Option, Some, None, slice_index_or}
use Rattle.std.specs.List.{list_all}
use Rattle.bw_key.specs.Order.{KeyBytes}
use Rattle.bw_model.specs.Contents.{is_in_range}
use Rattle.bw_model.specs.Values.{ValueBytes}
use Rattle.bw_page.specs.Pages.{IsPage}
use Rattle.bw_page.specs.Inners.{IsInner}
use Rattle.bw_page.specs.declared.pages.RemovedPage.{RemovedPage}
use Rattle.bw_delta.specs.Writes.{WriteView}

-- a leaf's base pairs with the writes over them; or an inner page's level and children
pub data Body : Type 0 where
  Pairs : List (KeyBytes × ValueBytes) → List WriteView → Body
  Children : ℕ → List (KeyBytes × ℕ) → Body

pub record PageState : Type 0 where
  pub low : KeyBytes
  pub high : Option KeyBytes
  pub side : Option ℕ
  pub body : Body

-- an identifier is free, names a removed page, or a page
pub data Slot : Type 0 where
  Free : Slot
  Gone : RemovedPage → Slot
  Live : PageState → Slot

abbrev pub slot_at : List Slot → ℕ → Slot
slot_at slots p = slice_index_or slots p Free

abbrev pub side_of_slot : Slot → Option ℕ
side_of_slot (Live s) = s.side
side_of_slot (Gone l) = None
side_of_slot Free = None

abbrev pub left_of_slot : Slot → Option ℕ
left_of_slot (Gone l) = Some l.left
left_of_slot (Live s) = None
left_of_slot Free = None

-- the right neighbour that a page's side link names
abbrev pub side_of : List Slot → ℕ → Option ℕ
side_of slots p = side_of_slot (slot_at slots p)

-- the page to which a removed page leads: its left neighbour, or the child of a root that went
abbrev pub left_of : List Slot → ℕ → Option ℕ
left_of slots p = left_of_slot (slot_at slots p)

abbrev pub level_of : Body → ℕ
level_of (Pairs pairs writes) = 0
level_of (Children level children) = level

abbrev pub children_of : Body → List (KeyBytes × ℕ)
children_of (Pairs pairs writes) = []
children_of (Children level children) = children

abbrev pub slot_level : Slot → ℕ
slot_level (Live s) = level_of s.body
slot_level (Gone l) = 0
slot_level Free = 0

abbrev pub body_is_leaf : Body → Bool
body_is_leaf (Pairs pairs writes) = true
body_is_leaf (Children level children) = false

abbrev pub is_leaf : Slot → Bool
is_leaf (Live s) = body_is_leaf s.body
is_leaf (Gone l) = false
is_leaf Free = false

-- a page's range has the key
abbrev pub has_key : Slot → KeyBytes → Bool
has_key (Live s) key = is_in_range s.low s.high key
has_key (Gone l) key = false
has_key Free key = false

-- A leaf's pairs are those of a page, and its writes lie inside its range.
pub record IsLeafBody (low : KeyBytes) (high : Option KeyBytes) (side : Option ℕ)
    (pairs : List (KeyBytes × ValueBytes)) (writes : List WriteView) : Type 0 where
  pub page : IsPage low high side pairs
  pub inside : T (list_all (λ w. is_in_range low high w.key) writes)

abbrev pub IsSoundBody : KeyBytes → Option KeyBytes → Option ℕ → Body → Type 0
IsSoundBody low high side (Pairs pairs writes) = IsLeafBody low high side pairs writes
IsSoundBody low high side (Children level children) = IsInner level low high side children

abbrev pub IsSoundPage : PageState → Type 0
IsSoundPage s = IsSoundBody s.low s.high s.side s.body

-- a page that stays and is sound
abbrev pub IsSound : Slot → Type 0
IsSound (Live s) = IsSoundPage s
IsSound (Gone l) = ⊥
IsSound Free = ⊥

-- an inner page that is sound
abbrev pub IsSoundInner : Slot → Type 0
IsSoundInner (Live s) = (body_is_leaf s.body ≡ false) × IsSoundPage s
IsSoundInner (Gone l) = ⊥
IsSoundInner Free = ⊥
