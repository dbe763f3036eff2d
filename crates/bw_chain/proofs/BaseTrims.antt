-- Base pages that go from the end leave each page as it is, where their numbers are vacant.
use Rattle.std.proofs.Common.{inl, inr, ◌⊎◌, ◌≡◌, ℕ, zero, suc, ◌<◌, ◌≤◌, List, [], ◌∷◌, length, map, take, Option, Some, None, refl, sym, ◌∙◌, subst, arith}
use Rattle.std.proofs.lemmas.Bool.{cases_lt}
use Rattle.std.specs.Prelude.{slice_get}
use Rattle.bw_page.specs.declared.pages.Page.{Page}
use Rattle.bw_page.specs.declared.pages.Page.TheVariants.{Gone as GonePage}
use Rattle.bw_level.specs.Changes.{Bases, based}
use Rattle.bw_chain.specs.Chains.{AllEnd, Records, Ends, EndsAt, IsShaped, deltas_at, link_of, slot_of_word, slots_of}
use Rattle.bw_chain.specs.Removed.{HasAllRemoved}
use Rattle.bw_level.specs.Slots.{Slot, Free, slot_at}
use Rattle.bw_chain.specs.Supports.{OwnBases, base_under}
use Rattle.bw_chain.specs.Vacancy.{AreVacantFrom}
use Rattle.bw_chain.proofs.AdditionLemmas.{same_slot, slot_here}
use Rattle.bw_chain.proofs.SupportLemmas.{page_kept}
use Rattle.bw_chain.proofs.VacancyLemmas.{vacant_free}
use Rattle.bw_level.proofs.WalkLemmas.{ended_is}

none : {X : Type 0} {x : X} → None ≡ Some x → ⊥
none e = cc

-- an entry of the first ones is one of all
pub taken_at : {X : Type 0} (xs : List X) (n i : ℕ) (x : X) → slice_get (take n xs) i ≡ Some x → (i < n) × (slice_get xs i ≡ Some x)
taken_at [] zero i x at = absurd (none at)
taken_at [] (suc n) i x at = absurd (none at)
taken_at (y ∷ ys) zero i x at = absurd (none at)
taken_at (y ∷ ys) (suc n) zero x at = (omega arith, at)
taken_at (y ∷ ys) (suc n) (suc i) x at = let h = taken_at ys n i x at in (omega (arith, h.0), h.1)

-- and the first ones have all that stand before their end
get_taken : {X : Type 0} (xs : List X) (n i : ℕ) → i < n → slice_get (take n xs) i ≡ slice_get xs i
get_taken xs zero i lt = absurd (omega (arith, lt))
get_taken [] (suc n) i lt = refl
get_taken (x ∷ xs) (suc n) zero lt = refl
get_taken (x ∷ xs) (suc n) (suc i) lt = get_taken xs n i (omega (arith, lt))

within_taken : {X : Type 0} (xs : List X) (n i : ℕ) → i < n → i < length xs → i < length (take n xs)
within_taken xs zero i lt within = absurd (omega (arith, lt))
within_taken [] (suc n) i lt within = within
within_taken (x ∷ xs) (suc n) zero lt within = omega arith
within_taken (x ∷ xs) (suc n) (suc i) lt within = let more = within_taken xs n i (omega (arith, lt)) (omega (arith, within)) in omega (arith, more)

none_behind : {X : Type 0} (xs : List X) (n i : ℕ) → n ≤ i → slice_get (take n xs) i ≡ None
none_behind [] zero i le = refl
none_behind [] (suc n) i le = refl
none_behind (x ∷ xs) zero i le = refl
none_behind (x ∷ xs) (suc n) zero le = absurd (omega (arith, le))
none_behind (x ∷ xs) (suc n) (suc i) le = none_behind xs n i (omega (arith, le))

-- as many of two lists of one length
same_count : {X Y : Type 0} (xs : List X) (ys : List Y) (n : ℕ) → length xs ≡ length ys → length (take n xs) ≡ length (take n ys)
same_count [] [] zero same = refl
same_count [] [] (suc n) same = refl
same_count [] (y ∷ ys) n same = absurd (omega (arith, same))
same_count (x ∷ xs) [] n same = absurd (omega (arith, same))
same_count (x ∷ xs) (y ∷ ys) zero same = refl
same_count (x ∷ xs) (y ∷ ys) (suc n) same = let rest = same_count xs ys n (omega (arith, same)) in omega (arith, rest)

pub count_left : {X : Type 0} (xs : List X) (n : ℕ) → n ≤ length xs → length (take n xs) ≡ n
count_left [] zero le = refl
count_left [] (suc n) le = absurd (omega (arith, le))
count_left (x ∷ xs) zero le = refl
count_left (x ∷ xs) (suc n) le = let rest = count_left xs n (omega (arith, le)) in omega (arith, rest)

-- a list of removed pages has all that are left
pub all_taken : (bases : Bases) (n : ℕ) (numbers : List ℕ) → HasAllRemoved bases numbers → HasAllRemoved (take n bases) numbers
all_taken bases n numbers all i removed is = all i removed (taken_at bases n i (Some (GonePage removed)) is).1

-- no page without a mapping word
slot_none : (f : ℕ → Slot) (heads : List ℕ) (p : ℕ) → slice_get heads p ≡ None → slot_at (map f heads) p ≡ Free
slot_none f [] p e = refl
slot_none f (h ∷ heads) zero e = absurd (none (sym e))
slot_none f (h ∷ heads) (suc p) e = slot_none f heads p e

module _ (heads : List ℕ) (bases : Bases) (records : Records) (ends : AllEnd bases records heads) (own : OwnBases heads bases records) (n : ℕ) where
  abbrev pub heads_left : List ℕ
  heads_left = take n heads

  abbrev pub bases_left : Bases
  bases_left = take n bases

  pub own_left : OwnBases heads_left bases_left records
  own_left = record { count = same_count heads bases n own.count; number = λ p word at. own.number p word (taken_at heads n p word at).1 }

  pub ends_left : AllEnd bases_left records heads_left
  ends_left p word at = by e.0 e.1.0 e.1.1
    where
      e : Ends bases records word
      e = ends p word (taken_at heads n p word at).1

      below : (e : ℕ) → e ≡ p → e < n
      below e here = omega (arith, here, (taken_at heads n p word at).0)

      by : (ws : List ℕ) (e : ℕ) → EndsAt bases records word ws e → Ends bases_left records word
      by ws e h =
          let here : e ≡ p = sym (ended_is (link_of records) (length records) word ws e h.way h.short) ∙ own.number p word (taken_at heads n p word at).1 in
          (ws, (e, record { way = h.way; short = h.short; within = within_taken bases n e (below e here) h.within; limit = h.limit; shaped = subst (λ (o : Option (Option Page)). IsShaped (based o) (deltas_at records ws)) (sym (get_taken bases n e (below e here))) h.shaped }))

  module _ (vacant : AreVacantFrom bases n) where
    free_old : (p : ℕ) → n ≤ p → slot_at (slots_of heads bases records) p ≡ Free
    free_old p le = by (slice_get heads p) refl
      where
        by : (o : Option ℕ) → slice_get heads p ≡ o → slot_at (slots_of heads bases records) p ≡ Free
        by None at = slot_none (slot_of_word bases records) heads p at
        by (Some word) at = slot_here (slot_of_word bases records) heads p word at ∙ vacant_free heads bases records own p word at (vacant p le)

    -- each page is as it was
    pub slots_left : (p : ℕ) → slot_at (slots_of heads_left bases_left records) p ≡ slot_at (slots_of heads bases records) p
    slots_left p = by (cases_lt p n)
      where
        by : (p < n) ⊎ (n ≤ p) → slot_at (slots_of heads_left bases_left records) p ≡ slot_at (slots_of heads bases records) p
        by (inl lt) = same_slot (slot_of_word bases records) (slot_of_word bases_left records) heads heads_left p (get_taken heads n p lt)
            (λ word at. page_kept bases bases_left records word (get_taken bases n (base_under records word) (omega (arith, lt, own.number p word at))))
        by (inr ge) = slot_none (slot_of_word bases_left records) heads_left p (none_behind heads n p ge) ∙ sym (free_old p ge)
