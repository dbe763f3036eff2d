-- How many identifiers aren't free.
use Rattle.std.proofs.Common.{inl, inr, ◌⊎◌, ◌≡◌, ℕ, zero, suc, ◌+◌, ◌≤◌, List, [], ◌∷◌, length, refl, sym, ap, ◌∙◌, arith}
use Rattle.std.proofs.lemmas.Bool.{cases_eq}
use Rattle.bw_page.specs.declared.pages.RemovedPage.{RemovedPage}
use Rattle.bw_level.specs.Slots.{Slot, PageState, Free, Gone, Live, slot_at}
use Rattle.bw_level.specs.Splits.{IsParted}
use Rattle.bw_steps.specs.Releasing.{one_if_taken, taken_count}

pub not_free : {s : PageState} → Live s ≡ Free → ⊥
not_free e = cc

gone_free : {g : RemovedPage} → Gone g ≡ Free → ⊥
gone_free e = cc

-- an identifier is free or it isn't
pub cases_free : (slot : Slot) → (slot ≡ Free) ⊎ (slot ≡ Free → ⊥)
cases_free Free = inl refl
cases_free (Gone l) = inr gone_free
cases_free (Live s) = inr not_free

at_most : (slot : Slot) → one_if_taken slot ≤ 1
at_most Free = omega arith
at_most (Gone l) = omega arith
at_most (Live s) = omega arith

-- there are no more than slots
pub taken_few : (slots : List Slot) → taken_count slots ≤ length slots
taken_few [] = omega arith
taken_few (slot ∷ slots) = let more = taken_few slots in let one = at_most slot in omega (arith, more, one)

one_taken : (slot : Slot) → (slot ≡ Free → ⊥) → one_if_taken slot ≡ 1
one_taken Free taken = absurd (taken refl)
one_taken (Gone l) taken = refl
one_taken (Live s) taken = refl

none_taken : (slot : Slot) → slot ≡ Free → one_if_taken slot ≡ 0
none_taken slot free = ap one_if_taken free

one_more : (old new : Slot) → (new ≡ Free → old ≡ Free) → one_if_taken old ≤ one_if_taken new
one_more old Free free = omega (arith, none_taken old (free refl))
one_more old (Gone l) free = at_most old
one_more old (Live s) free = at_most old

-- where no identifier is free that wasn't, as many are taken
pub taken_more : (old new : List Slot) → ((p : ℕ) → slot_at new p ≡ Free → slot_at old p ≡ Free) → taken_count old ≤ taken_count new
taken_more [] new free = omega arith
taken_more (s ∷ old) [] free =
    let more = taken_more old [] (λ p e. free (suc p) refl) in
    omega (arith, more, none_taken s (free zero refl))
taken_more (s ∷ old) (t ∷ new) free =
    let more = taken_more old new (λ p e. free (suc p) e) in
    let one = one_more s t (free zero) in
    omega (arith, more, one)

-- and one more, where one was free that isn't
pub taken_one : (old new : List Slot) (q : ℕ) → slot_at old q ≡ Free → (slot_at new q ≡ Free → ⊥) → ((p : ℕ) → slot_at new p ≡ Free → slot_at old p ≡ Free) → taken_count old + 1 ≤ taken_count new
taken_one old [] q was taken free = absurd (taken refl)
taken_one [] (t ∷ new) zero was taken free = omega (arith, one_taken t taken)
taken_one [] (t ∷ new) (suc q) was taken free = let more = taken_one [] new q was taken (λ p e. refl) in omega (arith, more)
taken_one (s ∷ old) (t ∷ new) zero was taken free =
    let more = taken_more old new (λ p e. free (suc p) e) in
    omega (arith, more, none_taken s was, one_taken t taken)
taken_one (s ∷ old) (t ∷ new) (suc q) was taken free =
    let more = taken_one old new q was taken (λ p e. free (suc p) e) in
    let one = one_more s t (free zero) in
    omega (arith, more, one)

-- where one page alone has changed, which is there still
pub taken_but : (old new : List Slot) (p : ℕ) (s : PageState) → slot_at new p ≡ Live s → ((r : ℕ) → (r ≡ p → ⊥) → slot_at new r ≡ slot_at old r) → (r : ℕ) → slot_at new r ≡ Free → slot_at old r ≡ Free
taken_but old new p s now others r free = by (cases_eq r p)
  where
    by : (r ≡ p) ⊎ (r ≡ p → ⊥) → slot_at old r ≡ Free
    by (inl same) = absurd (not_free (sym now ∙ ap (slot_at new) (sym same) ∙ free))
    by (inr other) = sym (others r other) ∙ free

-- a split takes one
pub taken_split : (old new : List Slot) (p q keep : ℕ) → IsParted old new p q keep → taken_count old + 1 ≤ taken_count new
taken_split old new p q keep parted = taken_one old new q parted.free (λ free. not_free (sym parted.right ∙ free)) (λ r free. by r free (cases_eq r p) (cases_eq r q))
  where
    by : (r : ℕ) → slot_at new r ≡ Free → (r ≡ p) ⊎ (r ≡ p → ⊥) → (r ≡ q) ⊎ (r ≡ q → ⊥) → slot_at old r ≡ Free
    by r free (inl same) which = absurd (not_free (sym parted.left ∙ ap (slot_at new) (sym same) ∙ free))
    by r free (inr other) (inl same) = ap (slot_at old) same ∙ parted.free
    by r free (inr other) (inr old_one) = sym (parted.others r other old_one) ∙ free
