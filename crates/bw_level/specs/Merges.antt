-- A page is absorbed by its left neighbour: it is removed, and that neighbour has its entries and goes on to its end.
use Rattle.std.specs.Prelude.{◌≡◌, ℕ, suc, ◌<◌, true, if◌then◌else◌, nat_eq, List, [], ◌∷◌, ◌++◌, Some, is_some, length, slice_set}
use Rattle.std.specs.Ordering.{is_lt}
use Rattle.bw_key.specs.Order.{KeyBytes, key_cmp}
use Rattle.bw_level.specs.Levels.{row}
use Rattle.bw_level.specs.Reading.{body_writes}
use Rattle.bw_level.specs.Slots.{Slot, PageState, Body, Pairs, Children, Free, Gone, Live, body_is_leaf, level_of, slot_at}
use Rattle.bw_level.specs.KeptLevels.{IsTerm}

-- the entries of two pages of one kind
abbrev pub bodies_joined : Body → Body → Body
bodies_joined (Pairs pairs writes) (Pairs more others) = Pairs (pairs ++ more) writes
bodies_joined (Pairs pairs writes) (Children level children) = Pairs pairs writes
bodies_joined (Children level children) (Pairs pairs writes) = Children level children
bodies_joined (Children level children) (Children other more) = Children level (children ++ more)

-- two neighbours as one page
abbrev pub state_joined : PageState → PageState → PageState
state_joined left right = record {
  low = left.low;
  high = right.high;
  side = right.side;
  body = bodies_joined left.body right.body;
}

-- The page q is the right neighbour of p, and there is no write over either. It is removed, and p has the entries of both
-- and goes on to its end. All other pages are as before.
pub record IsMerged (old new : List Slot) (p q : ℕ) : Type 0 where
  pub left : PageState
  pub left_is : slot_at old p ≡ Live left
  pub right : PageState
  pub right_is : slot_at old q ≡ Live right
  pub linked : left.side ≡ Some q
  pub bare : body_writes left.body ≡ []
  pub other_bare : body_writes right.body ≡ []
  pub joined : slot_at new p ≡ Live (state_joined left right)
  pub gone : slot_at new q ≡ Gone (record { left = p; level = level_of right.body; low = right.low })
  pub others : (r : ℕ) → (r ≡ p → ⊥) → (r ≡ q → ⊥) → slot_at new r ≡ slot_at old r

-- no page of the level above begins with this child: its separator lies above the key where the page begins
abbrev pub IsNoFirstChild : List Slot → List (List ℕ) → ℕ → Type 0
IsNoFirstChild slots levels c = (n : ℕ) (k : KeyBytes) → suc n < length levels →
    (term : IsTerm slots levels n k c) → is_lt (key_cmp term.state.low k) ≡ true

-- two pages of one kind and level, the second of which begins where the first one ends
pub record AreNeighbours (slot right : Slot) : Type 0 where
  pub state : PageState
  pub is : slot ≡ Live state
  pub other : PageState
  pub other_is : right ≡ Live other
  pub meet : state.high ≡ Some other.low
  pub kind : body_is_leaf state.body ≡ body_is_leaf other.body
  pub level : level_of state.body ≡ level_of other.body
  pub linked : is_some other.side ≡ is_some other.high

-- both as one page, and what is left of the second one
abbrev pub slot_joined : Slot → Slot → Slot
slot_joined (Live s) (Live t) = Live (state_joined s t)
slot_joined (Live s) (Gone l) = Live s
slot_joined (Live s) Free = Live s
slot_joined (Gone l) right = Gone l
slot_joined Free right = Free

abbrev pub slot_removed : ℕ → Slot → Slot
slot_removed left (Live s) = Gone (record { left = left; level = level_of s.body; low = s.low })
slot_removed left (Gone l) = Gone l
slot_removed left Free = Free

-- pages without one of them
abbrev pub without_page : ℕ → List ℕ → List ℕ
without_page q [] = []
without_page q (x ∷ xs) = let rest = without_page q xs in if nat_eq x q then rest else x ∷ rest

-- the same of a level
abbrev pub level_merged : List (List ℕ) → ℕ → ℕ → List (List ℕ)
level_merged levels level q = slice_set levels level (without_page q (row levels level))
