-- Base pages that say that their page was removed: a list has the numbers of all.
use Rattle.std.proofs.Common.{inl, inr, ◌⊎◌, set, ◌≡◌, ℕ, zero, suc, ◌<◌, List, [], ◌∷◌, ◌++◌, Option, Some, None, refl, sym, ap, ◌∙◌, subst, arith}
use Rattle.std.specs.List.{Contains}
use Rattle.bw_page.specs.declared.pages.Page.{Page}
use Rattle.bw_page.specs.declared.pages.Page.TheVariants.{Gone as GonePage}
use Rattle.bw_page.specs.declared.pages.RemovedPage.{RemovedPage}
use Rattle.bw_level.specs.Changes.{Bases, plain}
use Rattle.bw_chain.specs.Placing.{put_at}
use Rattle.bw_chain.specs.Removed.{HasAllRemoved, IsNotRemoved, IsRemovedAt}
use Rattle.bw_level.specs.Slots.{Slot, PageState, Free, Gone, Live, IsSound, IsSoundInner}
use Rattle.bw_level.specs.Splits.{slot_entries}

-- a page that stays isn't a removed one
pub live_page : (page : Page) (s : PageState) → plain page ≡ Live s → IsNotRemoved page
live_page page s is removed gone = clash (sym (ap plain gone) ∙ is)
  where
    clash : {g : RemovedPage} → Gone g ≡ Live s → ⊥
    clash e = cc

-- a base page in the place of another is there, or the one that was
set_removed : (bases : Bases) (i : ℕ) (o : Option Page) (n : ℕ) (g : RemovedPage) → IsRemovedAt (set bases i o) n g → ((n ≡ i) × (o ≡ Some (GonePage g))) ⊎ IsRemovedAt bases n g
set_removed [] i o n g is = inr is
set_removed (x ∷ bases) zero o zero g is = inl (refl, one is)
  where
    one : {a b : Option Page} → Some a ≡ Some b → a ≡ b
    one e = cc
set_removed (x ∷ bases) zero o (suc n) g is = inr is
set_removed (x ∷ bases) (suc i) o zero g is = inr is
set_removed (x ∷ bases) (suc i) o (suc n) g is = by (set_removed bases i o n g is)
  where
    by : ((n ≡ i) × (o ≡ Some (GonePage g))) ⊎ IsRemovedAt bases n g → ((suc n ≡ suc i) × (o ≡ Some (GonePage g))) ⊎ IsRemovedAt bases n g
    by (inl here) = inl (ap suc here.0, here.1)
    by (inr there) = inr there

-- so a page that stays makes none a removed one
pub all_set : (bases : Bases) (i : ℕ) (page : Page) (numbers : List ℕ) → IsNotRemoved page → HasAllRemoved bases numbers → HasAllRemoved (set bases i (Some page)) numbers
all_set bases i page numbers stays all n g is = by (set_removed bases i (Some page) n g is)
  where
    one : {a b : Page} → Some a ≡ Some b → a ≡ b
    one e = cc

    by : ((n ≡ i) × (Some page ≡ Some (GonePage g))) ⊎ IsRemovedAt bases n g → Contains numbers n
    by (inl here) = absurd (stays g (one here.1))
    by (inr there) = all n g there

-- nor does a vacancy
pub all_vacated : (bases : Bases) (i : ℕ) (numbers : List ℕ) → HasAllRemoved bases numbers → HasAllRemoved (set bases i None) numbers
all_vacated bases i numbers all n g is = by (set_removed bases i None n g is)
  where
    none : {a : Page} → None ≡ Some a → ⊥
    none e = cc

    by : ((n ≡ i) × (None ≡ Some (GonePage g))) ⊎ IsRemovedAt bases n g → Contains numbers n
    by (inl here) = absurd (none here.1)
    by (inr there) = all n g there

-- nor a new page
pub all_put : (bases : Bases) (i : ℕ) (page : Page) (numbers : List ℕ) → IsNotRemoved page → HasAllRemoved bases numbers → HasAllRemoved (put_at bases i (Some page)) numbers
all_put bases i page numbers stays all n g is = all n g (was bases i n is)
  where
    one : {a b : Page} → Some (Some a) ≡ Some (Some b) → a ≡ b
    one e = cc

    was : (bases : Bases) (i n : ℕ) → IsRemovedAt (put_at bases i (Some page)) n g → IsRemovedAt bases n g
    was [] i zero is = absurd (stays g (one is))
    was [] i (suc n) is = is
    was (x ∷ bases) zero zero is = absurd (stays g (one is))
    was (x ∷ bases) zero (suc n) is = is
    was (x ∷ bases) (suc i) zero is = is
    was (x ∷ bases) (suc i) (suc n) is = was bases i n is

-- a page that is sound stays
pub sound_live : (slot : Slot) → IsSound slot → (s : PageState) × (slot ≡ Live s)
sound_live Free sound = absurd sound
sound_live (Gone g) sound = absurd sound
sound_live (Live s) sound = (s, refl)

pub inner_live : (slot : Slot) → IsSoundInner slot → (s : PageState) × (slot ≡ Live s)
inner_live Free sound = absurd sound
inner_live (Gone g) sound = absurd sound
inner_live (Live s) sound = (s, refl)

-- so does one with entries
pub entries_live : (slot : Slot) (n : ℕ) → n < slot_entries slot → (s : PageState) × (slot ≡ Live s)
entries_live Free n fewer = absurd (omega (arith, fewer))
entries_live (Gone g) n fewer = absurd (omega (arith, fewer))
entries_live (Live s) n fewer = (s, refl)

-- a base page that is taken out and put back, another one that stays
pub all_replaced : (bases : Bases) (i : ℕ) (page : Page) (numbers : List ℕ) → IsNotRemoved page → HasAllRemoved bases numbers → HasAllRemoved (set (set bases i None) i (Some page)) numbers
all_replaced bases i page numbers stays all = all_set (set bases i None) i page numbers stays (all_vacated bases i numbers all)

-- a page that is removed gets into the list
pub all_removed : (bases : Bases) (i : ℕ) (page : Page) (numbers : List ℕ) → HasAllRemoved bases numbers → HasAllRemoved (set bases i (Some page)) (numbers ++ i ∷ [])
all_removed bases i page numbers all n g is = by (set_removed bases i (Some page) n g is)
  where
    last : (ns : List ℕ) → Contains (ns ++ i ∷ []) i
    last [] = (zero, omega arith, refl)
    last (m ∷ ns) = let more = last ns in (suc more.0, omega (arith, more.1), more.2)

    still : (ns : List ℕ) → Contains ns n → Contains (ns ++ i ∷ []) n
    still [] has = absurd (omega (arith, has.1))
    still (m ∷ ns) (zero, lt, at) = (zero, omega arith, at)
    still (m ∷ ns) (suc k, lt, at) = let more = still ns (k, omega (arith, lt), at) in (suc more.0, omega (arith, more.1), more.2)

    by : ((n ≡ i) × (Some page ≡ Some (GonePage g))) ⊎ IsRemovedAt bases n g → Contains (numbers ++ i ∷ []) n
    by (inl here) = subst (Contains (numbers ++ i ∷ [])) (sym here.0) (last numbers)
    by (inr there) = still numbers (all n g there)

-- a number that is of no removed page may leave it
pub all_passed : (bases : Bases) (i : ℕ) (numbers rest : List ℕ) → numbers ≡ rest ++ i ∷ [] → ((removed : RemovedPage) × IsRemovedAt bases i removed → ⊥) → HasAllRemoved bases numbers → HasAllRemoved bases rest
all_passed bases i numbers rest parts not all n g is = stays (of rest (subst (λ ns. Contains ns n) parts (all n g is)))
  where
    of : (ns : List ℕ) → Contains (ns ++ i ∷ []) n → Contains ns n ⊎ (n ≡ i)
    of [] (zero, lt, at) = inr (sym at)
    of [] (suc k, lt, at) = absurd (omega (arith, lt))
    of (m ∷ ns) (zero, lt, at) = inl (zero, omega arith, at)
    of (m ∷ ns) (suc k, lt, at) = later (of ns (k, omega (arith, lt), at))
      where
        later : Contains ns n ⊎ (n ≡ i) → Contains (m ∷ ns) n ⊎ (n ≡ i)
        later (inl has) = inl (suc has.0, omega (arith, has.1), has.2)
        later (inr same) = inr same

    stays : Contains rest n ⊎ (n ≡ i) → Contains rest n
    stays (inl has) = has
    stays (inr same) = absurd (not (g, subst (λ k. IsRemovedAt bases k g) same is))
