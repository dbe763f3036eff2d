-- Index entries are exact: each names the page that begins at its separator, or that did.
use Rattle.std.specs.Prelude.{◌≡◌, ℕ, suc, ◌<◌, true, List, length}
use Rattle.std.specs.Ordering.{is_lt}
use Rattle.bw_key.specs.Order.{KeyBytes, key_cmp}
use Rattle.bw_page.specs.declared.pages.RemovedPage.{RemovedPage}
use Rattle.bw_level.specs.Slots.{Slot, PageState, Gone, Live, slot_at}
use Rattle.bw_level.specs.KeptLevels.{IsTerm}

-- A child begins at its separator, or did so until it was removed, on the level below. No child has two separators, and no
-- page begins with a removed child: its separator lies above the key where the page begins.
pub record AreExact (slots : List Slot) (levels : List (List ℕ)) : Type 0 where
  pub begins : (n : ℕ) (k : KeyBytes) (c : ℕ) (s : PageState) → suc n < length levels → IsTerm slots levels n k c →
      slot_at slots c ≡ Live s → s.low ≡ k
  pub began : (n : ℕ) (k : KeyBytes) (c : ℕ) (removed : RemovedPage) → suc n < length levels →
      IsTerm slots levels n k c → slot_at slots c ≡ Gone removed → (removed.low ≡ k) × (removed.level ≡ n)
  pub behind : (n : ℕ) (k : KeyBytes) (c : ℕ) (removed : RemovedPage) → suc n < length levels →
      (term : IsTerm slots levels n k c) → slot_at slots c ≡ Gone removed → is_lt (key_cmp term.state.low k) ≡ true
  pub once : (n : ℕ) (k h : KeyBytes) (c : ℕ) → suc n < length levels → IsTerm slots levels n k c →
      IsTerm slots levels n h c → k ≡ h
