-- An identifier is given back: its page stands on no level, and nothing leads to it.
use Rattle.std.specs.Prelude.{◌≡◌, ℕ, suc, ◌<◌, List, Some, length}
use Rattle.bw_key.specs.Order.{KeyBytes}
use Rattle.bw_level.specs.Searches.{IsInLevels}
use Rattle.bw_level.specs.Slots.{Slot, Free, left_of, slot_at}
use Rattle.bw_level.specs.KeptLevels.{IsTerm}

-- The page stands on no level, and no page of a level has an index entry for it.
pub record IsAside (slots : List Slot) (levels : List (List ℕ)) (p : ℕ) : Type 0 where
  pub stands : IsInLevels levels p → ⊥
  pub named : (n : ℕ) (separator : KeyBytes) → suc n < length levels → IsTerm slots levels n separator p → ⊥

-- The page stands on no level, no page of a level has an index entry for it, and it is no removed page's left neighbour.
pub record IsUnreached (slots : List Slot) (levels : List (List ℕ)) (p : ℕ) : Type 0 where
  pub stands : IsInLevels levels p → ⊥
  pub named : (n : ℕ) (separator : KeyBytes) → suc n < length levels → IsTerm slots levels n separator p → ⊥
  pub left : (q : ℕ) → left_of slots q ≡ Some p → ⊥

-- The identifier is free. All other pages are as before.
pub record IsFreed (old new : List Slot) (p : ℕ) : Type 0 where
  pub free : slot_at new p ≡ Free
  pub others : (q : ℕ) → (q ≡ p → ⊥) → slot_at new q ≡ slot_at old q
