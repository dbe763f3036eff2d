-- Where all pages are the same, levels stay and hold what they held.
use Rattle.std.proofs.Common.{◌≡◌, ℕ, List, refl, sym, subst}
use Rattle.bw_level.specs.Laws.{KeepsAll}
use Rattle.bw_level.specs.Levels.{AreLevels}
use Rattle.bw_level.specs.Slots.{Slot, Free, Gone, Live, slot_at}
use Rattle.bw_level.specs.KeptLevels.{AreAlike}
use Rattle.bw_level.proofs.AlikeLemmas.{exact_alike, levels_alike, stand_alike}
use Rattle.bw_level.proofs.AsideLemmas.{contents_of_same, writes_of_same}

alike_itself : (slot : Slot) → AreAlike slot slot
alike_itself Free = refl
alike_itself (Gone l) = refl
alike_itself (Live s) = record { state = s; is = refl; sound = λ h. h; level = refl; children = refl; low = refl; high = refl; side = refl }

module _ (old new : List Slot) (same : (p : ℕ) → slot_at new p ≡ slot_at old p) where
  alike : (p : ℕ) → AreAlike (slot_at old p) (slot_at new p)
  alike p = subst (AreAlike (slot_at old p)) (sym (same p)) (alike_itself (slot_at old p))

  pub all_kept : (root : ℕ) (levels : List (List ℕ)) → AreLevels old root levels → KeepsAll old new root levels levels
  all_kept root levels lawful = record {
    lawful = levels_alike old new root levels alike lawful;
    exact = exact_alike old new alike levels;
    stand = stand_alike old new alike levels;
    writes = writes_of_same old new levels (λ x has. same x);
    contents = λ distinct. contents_of_same old new levels (λ x has. same x);
  }
