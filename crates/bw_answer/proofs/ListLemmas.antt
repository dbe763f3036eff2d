-- Parts of lists.
use Rattle.std.proofs.Common.{◌≡◌, ℕ, zero, suc, ◌+◌, ◌<◌, List, [], ◌∷◌, ◌++◌, length, take, drop, get_or, slice_get, Some, refl, ap, ◌∙◌, arith}
use Rattle.std.specs.List.{AllByRecursion}

module _ {X : Type 0} (P : X → Type 0) where
  pub all_front : (xs ys : List X) → AllByRecursion P (xs ++ ys) → AllByRecursion P xs
  all_front [] ys a = tt
  all_front (x ∷ xs) ys a = (a.0, all_front xs ys a.1)

  pub all_back : (xs ys : List X) → AllByRecursion P (xs ++ ys) → AllByRecursion P ys
  all_back [] ys a = a
  all_back (x ∷ xs) ys a = all_back xs ys a.1

  pub all_take : (n : ℕ) (xs : List X) → AllByRecursion P xs → AllByRecursion P (take n xs)
  all_take zero xs a = tt
  all_take (suc n) [] a = tt
  all_take (suc n) (x ∷ xs) a = (a.0, all_take n xs a.1)

  pub all_drop : (n : ℕ) (xs : List X) → AllByRecursion P xs → AllByRecursion P (drop n xs)
  all_drop zero xs a = a
  all_drop (suc n) [] a = tt
  all_drop (suc n) (x ∷ xs) a = all_drop n xs a.1

module _ {X : Type 0} where
  -- the rest, one element further
  pub drop_next : (xs : List X) (n : ℕ) (d : X) → n < length xs → drop n xs ≡ get_or xs n d ∷ drop (n + 1) xs
  drop_next [] n d lt = absurd (omega arith)
  drop_next (x ∷ xs) zero d lt = refl
  drop_next (x ∷ xs) (suc n) d lt = drop_next xs n d (omega arith) ∙ ap (λ (k : ℕ). get_or xs n d ∷ drop k (x ∷ xs)) (one_more n)
    where
      one_more : (n : ℕ) → suc (n + 1) ≡ suc n + 1
      one_more n = omega arith

  -- lists that agree at each place
  pub same_list : (xs ys : List X) → length xs ≡ length ys → ((i : ℕ) → i < length xs → slice_get xs i ≡ slice_get ys i) → xs ≡ ys
  same_list [] [] len same = refl
  same_list [] (y ∷ ys) len same = absurd (omega (arith, len))
  same_list (x ∷ xs) [] len same = absurd (omega (arith, len))
  same_list (x ∷ xs) (y ∷ ys) len same =
      let first = one (same 0 (omega arith)) in
      let rest = same_list xs ys (omega (arith, len)) (λ i lt. same (suc i) (omega (arith, lt))) in
      rw (first, rest) refl
    where
      one : Some x ≡ Some y → x ≡ y
      one e = cc
