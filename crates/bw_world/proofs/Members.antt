-- Tests and reads of lists: the number of members that pass a test, and a list of lists behind a list of vectors.
use Rattle.std.proofs.Common.{◌==◌, zero, suc, length, get_or, map, take, ◌++◌, ◌≡◌, ℕ, ◌+◌, ◌<◌, Bool, true, false, List, [], ◌∷◌, ◌||◌, arith, refl, sym, ap, ◌∙◌, IsTrue, ◌↔◌}
use Rattle.std.specs.List.{list_any}
use Rattle.std.proofs.lemmas.List.{map-append, take_more}
use Rattle.bw_core.specs.World.{one_if, total, times}

module _ {X : Type 0} where
  -- some member passes the test where the number of those that do isn't 0
  pub some_passes : (f : X → Bool) (xs : List X) → (list_any f xs ≡ true → 0 < total (λ x. one_if (f x)) xs) × (0 < total (λ x. one_if (f x)) xs → list_any f xs ≡ true)
  some_passes f [] = ((λ e. let e : false ≡ true = e in absurd (cc)), (λ h. absurd (omega arith)))
  some_passes f (x ∷ xs) = let t = some_passes f xs in elim (f x) as (λ b. ((b || list_any f xs) ≡ true → 0 < one_if b + total (λ x. one_if (f x)) xs) × (0 < one_if b + total (λ x. one_if (f x)) xs → (b || list_any f xs) ≡ true)) [
    | true ↦ ((λ _. omega arith), (λ _. refl))
    | false ↦ ((λ e. let k = t.0 e in omega arith), (λ h. t.1 (omega arith)))
  ]

  pub test_is : (f : X → Bool) (xs : List X) (r : Bool) → r ≡ list_any f xs → IsTrue r ↔ (0 < total (λ x. one_if (f x)) xs)
  test_is f xs r e = let t = some_passes f xs in ((λ h. t.0 (sym e ∙ h)), (λ h. e ∙ t.1 h))

-- what is read from a list, under a map
pub get_or-map : {X Y : Type 0} (f : X → Y) (xs : List X) (i : ℕ) (x : X) (d : Y) → i < length xs → x ≡ get_or xs i x → get_or (map f xs) i d ≡ f x
get_or-map f [] i x d h e = absurd (omega arith)
get_or-map f (y ∷ ys) zero x d h e = ap f (sym e)
get_or-map f (y ∷ ys) (suc i) x d h e = get_or-map f ys i x d (omega arith) e

or_cases : {P : Type 0} (a b : Bool) → (a || b) ≡ true → (a ≡ true → P) → (b ≡ true → P) → P
or_cases true b e g h = g refl
or_cases false b e g h = h e

or_left : (a b : Bool) → a ≡ true → (a || b) ≡ true
or_left a b e = ap (λ z. z || b) e

or_right : (a b : Bool) → b ≡ true → (a || b) ≡ true
or_right true b e = refl
or_right false b e = e

abbrev has : ℕ → List ℕ → Bool
has r ys = list_any (λ y. y == r) ys

module _ {X : Type 0} (f : X → List ℕ) (r : ℕ) where
  -- some list of many has r, where r stands in one of them
  pub found_in : (xs : List X) → list_any (λ x. list_any (λ y. y == r) (f x)) xs ≡ true → (i : ℕ) × (i < length xs) × (0 < times r (get_or (map f xs) i []))
  found_in [] e = let e : false ≡ true = e in absurd (cc)
  found_in (x ∷ xs) e = or_cases (has r (f x)) _ e (λ a. (0, omega arith, (some_passes (λ y. y == r) (f x)).0 a)) (λ a. let u = found_in xs a in (suc u.0, (let h = u.1 in omega arith), u.2))

  pub found_if : (xs : List X) (i : ℕ) → i < length xs → 0 < times r (get_or (map f xs) i []) → list_any (λ x. list_any (λ y. y == r) (f x)) xs ≡ true
  found_if [] i h k = absurd (omega arith)
  found_if (x ∷ xs) zero h k = or_left (has r (f x)) _ ((some_passes (λ y. y == r) (f x)).1 k)
  found_if (x ∷ xs) (suc i) h k = or_right (has r (f x)) _ (found_if xs i (omega arith) k)

-- one more of a list that is built from its front
pub one_more : {X Y : Type 0} (f : X → Y) (zs : List X) (x : X) (ys : List Y) (i : ℕ) (d : Y) → map f zs ≡ take i ys → i < length ys → f x ≡ get_or ys i d → map f (zs ++ x ∷ []) ≡ take (i + 1) ys
one_more f zs x ys i d e h k = map-append f zs (x ∷ []) ∙ ((λ j. e j ++ k j ∷ []) ∙ sym (take_more ys i d h))

pub one_word_more : (zs : List ℕ) (x : ℕ) (ys : List ℕ) (i : ℕ) → zs ≡ take i ys → i < length ys → x ≡ get_or ys i 0 → zs ++ x ∷ [] ≡ take (i + 1) ys
one_word_more zs x ys i e h k = (λ j. e j ++ k j ∷ []) ∙ sym (take_more ys i 0 h)
