-- Lists that are made of lists in another order.
use Rattle.std.proofs.Common.{ℕ, zero, suc, ◌<◌, List, [], ◌∷◌, ◌++◌, length, get_or, set, flat_map, subst, arith}
use Rattle.std.proofs.lemmas.List.{append_assoc}
use Rattle.std.proofs.lemmas.List.Edits.{swap_is}
use Rattle.std.proofs.lemmas.List.Sorted.{IsPermutation-append_comm, IsPermutation-append_left, IsPermutation-append_right, IsPermutation-keeps, IsPermutation-refl, IsPermutation-trans}
use Rattle.std.specs.List.Sorted.{IsPermutation}

-- the first two parts of a list change their places
parts_swapped : {A : Type 0} (xs ys zs : List A) → IsPermutation (xs ++ (ys ++ zs)) (ys ++ (xs ++ zs))
parts_swapped xs ys zs =
    subst (λ l. IsPermutation l (ys ++ (xs ++ zs))) (append_assoc xs ys zs)
    (subst (IsPermutation ((xs ++ ys) ++ zs)) (append_assoc ys xs zs)
    (IsPermutation-append_left zs (xs ++ ys) (ys ++ xs) (IsPermutation-append_comm xs ys)))

first_of : {X : Type 0} (xs : List X) → 0 < length xs → X
first_of [] some = absurd (omega (arith, some))
first_of (x ∷ xs) some = x

module _ {X A : Type 0} (f : X → List A) where
  -- the list of one element comes in the place of that of another one
  taken : (a : X) (xs : List X) (k : ℕ) (d : X) → k < length xs → IsPermutation (f a ++ flat_map f xs) (f (get_or xs k d) ++ flat_map f (set xs k a))
  taken a [] k d lt = absurd (omega (arith, lt))
  taken a (x ∷ xs) zero d lt = parts_swapped (f a) (f x) (flat_map f xs)
  taken a (x ∷ xs) (suc k) d lt =
      let rest = set xs k a in
      let got = f (get_or xs k d) in
      IsPermutation-trans (f a ++ (f x ++ flat_map f xs)) (f x ++ (f a ++ flat_map f xs)) (got ++ (f x ++ flat_map f rest)) (parts_swapped (f a) (f x) (flat_map f xs))
      (IsPermutation-trans (f x ++ (f a ++ flat_map f xs)) (f x ++ (got ++ flat_map f rest)) (got ++ (f x ++ flat_map f rest))
      (IsPermutation-append_right (f x) (f a ++ flat_map f xs) (got ++ flat_map f rest) (taken a xs k d (omega (arith, lt))))
      (parts_swapped (f x) got (flat_map f rest)))

  swapped : (xs : List X) (i j : ℕ) (d : X) → i < length xs → j < length xs → IsPermutation (flat_map f xs) (flat_map f (set (set xs i (get_or xs j d)) j (get_or xs i d)))
  swapped [] i j d lt lt' = absurd (omega (arith, lt))
  swapped (x ∷ xs) zero zero d lt lt' = IsPermutation-refl (f x ++ flat_map f xs)
  swapped (x ∷ xs) zero (suc j) d lt lt' = taken x xs j d (omega (arith, lt'))
  swapped (x ∷ xs) (suc i) zero d lt lt' = taken x xs i d (omega (arith, lt))
  swapped (x ∷ xs) (suc i) (suc j) d lt lt' =
      IsPermutation-append_right (f x) (flat_map f xs) (flat_map f (set (set xs i (get_or xs j d)) j (get_or xs i d))) (swapped xs i j d (omega (arith, lt)) (omega (arith, lt')))

  pub flat_permutation : (xs ys : List X) → IsPermutation xs ys → IsPermutation (flat_map f xs) (flat_map f ys)
  flat_permutation xs ys moved = IsPermutation-keeps xs (λ l. IsPermutation (flat_map f xs) (flat_map f l)) (IsPermutation-refl (flat_map f xs))
      (λ l i j lt lt' so.
      let d = first_of l (omega (arith, lt)) in
      let other = set (set l i (get_or l j d)) j (get_or l i d) in
      subst (λ m. IsPermutation (flat_map f xs) (flat_map f m)) (swap_is l i j d lt lt')
      (IsPermutation-trans (flat_map f xs) (flat_map f l) (flat_map f other) so (swapped l i j d lt lt')))
      ys moved
