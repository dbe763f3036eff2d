-- Ways that steps lead.
use Rattle.std.proofs.Common.{◌≡◌, ℕ, zero, suc, ◌<◌, ◌≤◌, Bool, true, false, ◌||◌, List, [], ◌∷◌, length, Option, Some, None, eqb, refl, sym, ap, ◌∙◌, subst, arith, inl, inr}
use Rattle.std.proofs.lemmas.Bool.{cases_eq}
use Rattle.std.proofs.lemmas.Bool.Decides.{nat_tests}
use Rattle.std.proofs.lemmas.Map.Steps.{length-le_from_distinct_below}
use Rattle.std.specs.List.{list_any, IsDistinct, AllByRecursion}
use Rattle.bw_level.specs.Walk.{Leads, walked, ended, through, up_to}

same_next : {p q : ℕ} → Some p ≡ Some q → p ≡ q
same_next e = cc

no_next : {q : ℕ} → None ≡ Some q → ⊥
no_next e = cc

module _ (next : ℕ → Option ℕ) where
  -- a way is walked in as many steps as it has places
  pub walked_is : (n p : ℕ) (xs : List ℕ) (e : ℕ) → Leads next p xs e → length xs ≤ n → walked next n p ≡ xs
  unfolding walked
  walked_is zero p [] e h le = refl
  walked_is (suc n) p [] e h le = ap (λ o. through o (λ q. p ∷ walked next n q)) h.1
  walked_is zero p (x ∷ xs) e h le = absurd (omega arith)
  walked_is (suc n) p (x ∷ xs) e h le =
      let more = h.1 in
      ap (λ o. through o (λ q. p ∷ walked next n q)) more.1 ∙ ap (λ (l : List ℕ). p ∷ l) (walked_is n more.0 xs e more.2 (omega arith)) ∙ ap (λ y. y ∷ xs) (sym h.0)

  pub ended_is : (n p : ℕ) (xs : List ℕ) (e : ℕ) → Leads next p xs e → length xs ≤ n → ended next n p ≡ e
  unfolding ended
  ended_is zero p [] e h le = h.0
  ended_is (suc n) p [] e h le = ap (λ o. up_to o p (λ q. ended next n q)) h.1 ∙ h.0
  ended_is zero p (x ∷ xs) e h le = absurd (omega arith)
  ended_is (suc n) p (x ∷ xs) e h le =
      let more = h.1 in
      ap (λ o. up_to o p (λ q. ended next n q)) more.1 ∙ ended_is n more.0 xs e more.2 (omega arith)

  -- there is one way only
  pub one_way : (p : ℕ) (xs ys : List ℕ) (e f : ℕ) → Leads next p xs e → Leads next p ys f → xs ≡ ys
  one_way p [] [] e f h k = refl
  one_way p [] (y ∷ ys) e f h k = absurd (no_next (sym h.1 ∙ k.1.1))
  one_way p (x ∷ xs) [] e f h k = absurd (no_next (sym k.1 ∙ h.1.1))
  one_way p (x ∷ xs) (y ∷ ys) e f h k =
      let same : h.1.0 ≡ k.1.0 = same_next (sym h.1.1 ∙ k.1.1) in
      let rest : xs ≡ ys = one_way k.1.0 xs ys e f (subst (λ q. Leads next q xs e) same h.1.2) k.1.2 in
      ap (λ z. z ∷ xs) (h.0 ∙ sym k.0) ∙ ap (λ (l : List ℕ). y ∷ l) rest

  -- and one place where it ends
  pub one_end : (p : ℕ) (xs ys : List ℕ) (e f : ℕ) → Leads next p xs e → Leads next p ys f → e ≡ f
  one_end p [] [] e f h k = sym h.0 ∙ k.0
  one_end p [] (y ∷ ys) e f h k = absurd (no_next (sym h.1 ∙ k.1.1))
  one_end p (x ∷ xs) [] e f h k = absurd (no_next (sym k.1 ∙ h.1.1))
  one_end p (x ∷ xs) (y ∷ ys) e f h k =
      let same : h.1.0 ≡ k.1.0 = same_next (sym h.1.1 ∙ k.1.1) in
      one_end k.1.0 xs ys e f (subst (λ q. Leads next q xs e) same h.1.2) k.1.2

  -- from each place of a way it goes on
  pub from_place : (p : ℕ) (xs : List ℕ) (e q : ℕ) → Leads next p xs e → list_any (eqb q) xs ≡ true → (r : ℕ) × (next q ≡ Some r) × ((ys : List ℕ) × Leads next q ys e × (length ys ≤ length xs))
  from_place p [] e q h has = absurd (different has)
    where
      different : false ≡ true → ⊥
      different e = cc
  from_place p (x ∷ xs) e q h has = elim (cases_eq q x) [
    | inl here ↦
        let at : p ≡ q = sym (here ∙ h.0) in
        (h.1.0, subst (λ z. next z ≡ Some h.1.0) at h.1.1, (x ∷ xs, subst (λ z. Leads next z (x ∷ xs) e) at h, omega arith))
    | inr other ↦
        let there : eqb q x ≡ false = grind (arith, nat_tests) in
        let later = from_place h.1.0 xs e q h.1.2 (sym (ap (λ b. b || list_any (eqb q) xs) there) ∙ has) in
        (later.0, later.1, (later.2.0, later.2.1, omega (arith, later.2.2)))
  ]

  apart : (p : ℕ) (xs : List ℕ) → (list_any (eqb p) xs ≡ true → ⊥) → AllByRecursion (λ y. eqb p y ≡ false) xs
  apart p [] lacks = tt
  apart p (x ∷ xs) lacks = (not_true (eqb p x) (λ e. lacks (ap (λ b. b || list_any (eqb p) xs) e)), apart p xs (λ e. lacks (later (eqb p x) (list_any (eqb p) xs) e)))
    where
      not_true : (b : Bool) → (b ≡ true → ⊥) → b ≡ false
      not_true true never = absurd (never refl)
      not_true false never = refl

      later : (a b : Bool) → b ≡ true → (a || b) ≡ true
      later true b e = refl
      later false b e = e

  -- no place is passed twice
  pub way_distinct : (p : ℕ) (xs : List ℕ) (e : ℕ) → Leads next p xs e → IsDistinct eqb xs
  unfolding IsDistinct
  way_distinct p [] e h = tt
  way_distinct p (x ∷ xs) e h =
      (apart x xs (λ again. round again), way_distinct h.1.0 xs e h.1.2)
    where
      round : list_any (eqb x) xs ≡ true → ⊥
      round again =
          let later = from_place h.1.0 xs e x h.1.2 again in
          let back = subst (λ z. Leads next z later.2.0 e) h.0 later.2.1 in
          let same : later.2.0 ≡ x ∷ xs = one_way p later.2.0 (x ∷ xs) e e back h in
          omega (arith, ap length same, later.2.2)

  -- no step leads on from where a way ends
  way_stops : (p : ℕ) (xs : List ℕ) (e : ℕ) → Leads next p xs e → next e ≡ None
  way_stops p [] e h = ap next (sym h.0) ∙ h.1
  way_stops p (x ∷ xs) e h = way_stops h.1.0 xs e h.1.2

  -- a step along a way that fits leaves less to walk
  pub way_falls_within : (n p q : ℕ) (xs : List ℕ) (e : ℕ) → Leads next p xs e → length xs ≤ n → next p ≡ Some q → (length (walked next n q) < length (walked next n p)) × ((ys : List ℕ) × Leads next q ys e × (length ys ≤ n))
  way_falls_within n p q [] e h short step = absurd (no_next (sym h.1 ∙ step))
  way_falls_within n p q (x ∷ xs) e h short step =
      let same : h.1.0 ≡ q = same_next (sym h.1.1 ∙ step) in
      let there : Leads next q xs e = subst (λ z. Leads next z xs e) same h.1.2 in
      let whole = walked_is n p (x ∷ xs) e h short in
      let rest = walked_is n q xs e there (omega arith) in
      (omega (arith, ap length whole, ap length rest), (xs, there, omega arith))

  module _ (n : ℕ) (bounded : (p q : ℕ) → next p ≡ Some q → p < n) where
    -- so a way among n places has at most n of them
    pub way_short : (p : ℕ) (xs : List ℕ) (e : ℕ) → Leads next p xs e → length xs ≤ n
    way_short p xs e h = length-le_from_distinct_below xs n (way_distinct p xs e h) (λ q has. let later = from_place p xs e q h has in bounded q later.0 later.1)

    -- and a step along it leaves less to walk
    pub way_falls : (p q : ℕ) (xs : List ℕ) (e : ℕ) → Leads next p xs e → next p ≡ Some q → length (walked next n q) < length (walked next n p)
    way_falls p q [] e h step = absurd (no_next (sym h.1 ∙ step))
    way_falls p q (x ∷ xs) e h step =
        let short = way_short p (x ∷ xs) e h in
        let same : h.1.0 ≡ q = same_next (sym h.1.1 ∙ step) in
        let whole = walked_is n p (x ∷ xs) e h short in
        let rest = walked_is n q xs e (subst (λ z. Leads next z xs e) same h.1.2) (omega arith) in
        omega (arith, ap length whole, ap length rest)

    -- with its end a way among n places has at most n of them
    pub way_fits : (p : ℕ) (xs : List ℕ) (e : ℕ) → Leads next p xs e → e < n → suc (length xs) ≤ n
    unfolding IsDistinct
    way_fits p xs e h there =
        length-le_from_distinct_below (e ∷ xs) n (apart e xs (λ again. no_next (sym (way_stops p xs e h) ∙ (from_place p xs e e h again).1)), way_distinct p xs e h)
        (λ q has. elim (cases_eq q e) [
          | inl here ↦ subst (λ z. z < n) (sym here) there
          | inr other ↦
              let differs : eqb q e ≡ false = grind (arith, nat_tests) in
              let later = from_place p xs e q h (sym (ap (λ b. b || list_any (eqb q) xs) differs) ∙ has) in
              bounded q later.0 later.1
        ])

pub one_way_one_end : (next : ℕ → Option ℕ) (p : ℕ) (xs ys : List ℕ) (e f : ℕ) → Leads next p xs e → Leads next p ys f → (xs ≡ ys) × (e ≡ f)
one_way_one_end next p xs ys e f h k = (one_way next p xs ys e f h k, one_end next p xs ys e f h k)

-- a way along a step that another one agrees with
pub way_on : (f g : ℕ → Option ℕ) → ((p : ℕ) → g p ≡ f p) → (p : ℕ) (xs : List ℕ) (e : ℕ) → Leads f p xs e → Leads g p xs e
way_on f g same p [] e h = (h.0, same p ∙ h.1)
way_on f g same p (x ∷ xs) e h = (h.0, (h.1.0, same p ∙ h.1.1, way_on f g same h.1.0 xs e h.1.2))
