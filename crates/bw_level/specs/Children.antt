-- An inner page names a page of the level below, beside those that it names already, or no longer names one.
use Rattle.std.specs.Prelude.{◌≡◌, ℕ, suc, ◌<◌, true, not, T, List, length, filter}
use Rattle.std.specs.List.{Contains}
use Rattle.std.specs.Ordering.{is_lt}
use Rattle.bw_key.specs.Order.{KeyBytes, key_cmp, key_eq}
use Rattle.bw_model.specs.Contents.{is_below_end}
use Rattle.bw_page.specs.declared.pages.RemovedPage.{RemovedPage}
use Rattle.bw_level.specs.Changes.{body_with_child}
use Rattle.bw_level.specs.Slots.{Slot, PageState, Body, Pairs, Children, Free, Gone, Live, children_of, slot_at}
use Rattle.bw_level.specs.Levels.{row}

-- the page with this child at the separator
abbrev pub state_with_child : KeyBytes → ℕ → PageState → PageState
state_with_child sep child s = record s { body = body_with_child sep child s.body }

-- The page may name the child, which stands on the level below and begins at the separator, a key of the page's range
-- above its low key.
pub record FitsChild (slots : List Slot) (levels : List (List ℕ)) (parent : ℕ) (sep : KeyBytes)
    (child : ℕ) : Type 0 where
  pub level : ℕ
  pub within : suc level < length levels
  pub in_level : Contains (row levels (suc level)) parent
  pub state : PageState
  pub is : slot_at slots parent ≡ Live state
  pub above : is_lt (key_cmp state.low sep) ≡ true
  pub inside : T (is_below_end state.high sep)
  pub child_in_level : Contains (row levels level) child
  pub child_state : PageState
  pub child_is : slot_at slots child ≡ Live child_state
  pub begins : child_state.low ≡ sep

-- The page names the child as well. All other pages are as before.
pub record HasChild (old new : List Slot) (parent : ℕ) (sep : KeyBytes) (child : ℕ) : Type 0 where
  pub was : PageState
  pub is : slot_at old parent ≡ Live was
  pub now : slot_at new parent ≡ Live (state_with_child sep child was)
  pub others : (r : ℕ) → (r ≡ parent → ⊥) → slot_at new r ≡ slot_at old r

-- the page without the child at the separator
abbrev pub body_without_child : KeyBytes → Body → Body
body_without_child sep (Pairs pairs writes) = Pairs pairs writes
body_without_child sep (Children level children) = Children level (filter (λ c. not (key_eq sep c.0)) children)

abbrev pub state_without_child : KeyBytes → PageState → PageState
state_without_child sep s = record s { body = body_without_child sep s.body }

abbrev pub slot_without_child : KeyBytes → Slot → Slot
slot_without_child sep (Live s) = Live (state_without_child sep s)
slot_without_child sep (Gone l) = Gone l
slot_without_child sep Free = Free

-- The page is an inner one and names a removed page at the separator, which isn't the key at which it begins.
pub record MayDropChild (slots : List Slot) (levels : List (List ℕ)) (parent : ℕ) (sep : KeyBytes) : Type 0 where
  pub level : ℕ
  pub within : suc level < length levels
  pub in_level : Contains (row levels (suc level)) parent
  pub state : PageState
  pub is : slot_at slots parent ≡ Live state
  pub above : is_lt (key_cmp state.low sep) ≡ true
  pub child : ℕ
  pub named : Contains (children_of state.body) (sep, child)
  pub removed : RemovedPage
  pub gone : slot_at slots child ≡ Gone removed

-- The page no longer names the child at the separator. All other pages are as before.
pub record HasDroppedChild (old new : List Slot) (parent : ℕ) (sep : KeyBytes) : Type 0 where
  pub was : PageState
  pub is : slot_at old parent ≡ Live was
  pub now : slot_at new parent ≡ Live (state_without_child sep was)
  pub others : (r : ℕ) → (r ≡ parent → ⊥) → slot_at new r ≡ slot_at old r

-- the page has an index entry at the key: this child, with that separator
abbrev pub HasChildAt : Slot → KeyBytes → ℕ → Type 0
HasChildAt (Live s) key child = Contains (children_of s.body) (key, child)
HasChildAt (Gone l) key child = ⊥
HasChildAt Free key child = ⊥
