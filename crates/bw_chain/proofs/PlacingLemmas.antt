-- A list with an entry at a place, which may be the one behind all others.
use Rattle.std.proofs.Common.{inl, inr, ◌⊎◌, set, ◌≡◌, ℕ, zero, suc, ◌+◌, ◌<◌, ◌≤◌, List, [], ◌∷◌, ◌++◌, length, max, Some, refl, sym, ap, ◌∙◌, arith}
use Rattle.std.proofs.lemmas.Bool.{cases_eq}
use Rattle.std.specs.Prelude.{slice_get}
use Rattle.bw_chain.specs.Placing.{put_at}

-- the entry is there
pub get_put : {X : Type 0} (xs : List X) (i : ℕ) (x : X) → i ≤ length xs → slice_get (put_at xs i x) i ≡ Some x
get_put [] zero x le = refl
get_put [] (suc i) x le = absurd (omega (arith, le))
get_put (y ∷ ys) zero x le = refl
get_put (y ∷ ys) (suc i) x le = get_put ys i x (omega (arith, le))

-- all other entries are as before
pub get_put_other : {X : Type 0} (xs : List X) (i j : ℕ) (x : X) → i ≤ length xs → (j ≡ i → ⊥) → slice_get (put_at xs i x) j ≡ slice_get xs j
get_put_other [] zero zero x le other = absurd (other refl)
get_put_other [] zero (suc j) x le other = refl
get_put_other [] (suc i) j x le other = absurd (omega (arith, le))
get_put_other (y ∷ ys) zero zero x le other = absurd (other refl)
get_put_other (y ∷ ys) zero (suc j) x le other = refl
get_put_other (y ∷ ys) (suc i) zero x le other = refl
get_put_other (y ∷ ys) (suc i) (suc j) x le other = get_put_other ys i j x (omega (arith, le)) (λ e. other (ap suc e))

pub length_put : {X : Type 0} (xs : List X) (i : ℕ) (x : X) → i ≤ length xs → length (put_at xs i x) ≡ max (length xs) (i + 1)
length_put [] zero x le = omega arith
length_put [] (suc i) x le = absurd (omega (arith, le))
length_put (y ∷ ys) zero x le = omega arith
length_put (y ∷ ys) (suc i) x le = let more = length_put ys i x (omega (arith, le)) in omega (arith, more)

-- in front of the list's end it takes the place of another one
pub put_set : {X : Type 0} (xs : List X) (i : ℕ) (x : X) → i < length xs → put_at xs i x ≡ set xs i x
put_set [] i x lt = absurd (omega (arith, lt))
put_set (y ∷ ys) zero x lt = refl
put_set {X = X} (y ∷ ys) (suc i) x lt = ap (λ (l : List X). y ∷ l) (put_set ys i x (omega (arith, lt)))

-- and at its end it is one more
pub put_last : {X : Type 0} (xs : List X) (i : ℕ) (x : X) → i ≡ length xs → put_at xs i x ≡ xs ++ x ∷ []
put_last [] i x last = refl
put_last (y ∷ ys) zero x last = absurd (omega (arith, last))
put_last {X = X} (y ∷ ys) (suc i) x last = ap (λ (l : List X). y ∷ l) (put_last ys i x (omega (arith, last)))

-- an entry of the new list is the one that was put, or one of the old list
pub put_where : {X : Type 0} (xs : List X) (i j : ℕ) (x y : X) → i ≤ length xs → slice_get (put_at xs i x) j ≡ Some y → ((j ≡ i) × (y ≡ x)) ⊎ ((j ≡ i → ⊥) × (slice_get xs j ≡ Some y))
put_where xs i j x y le at = by (cases_eq j i)
  where
    one : Some y ≡ Some x → y ≡ x
    one e = cc

    by : (j ≡ i) ⊎ (j ≡ i → ⊥) → ((j ≡ i) × (y ≡ x)) ⊎ ((j ≡ i → ⊥) × (slice_get xs j ≡ Some y))
    by (inl same) = inl (same, one (sym at ∙ ap (slice_get (put_at xs i x)) same ∙ get_put xs i x le))
    by (inr other) = inr (other, sym (get_put_other xs i j x le other) ∙ at)
