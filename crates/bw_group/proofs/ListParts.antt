-- Parts of lists.
use Rattle.std.proofs.Common.{◌≡◌, ℕ, zero, suc, ◌+◌, ◌-◌, ◌<◌, ◌≤◌, List, [], ◌∷◌, ◌++◌, length, take, drop, map, get_or, slice_get, slice_set, Some, refl, sym, ap, ◌∙◌, subst, arith, length-drop}
use Rattle.std.specs.List.{AllByRecursion}
use Rattle.std.proofs.lemmas.List.{take_more}

module _ {X : Type 0} (P : X → Type 0) where
  pub all_append : (xs ys : List X) → AllByRecursion P xs → AllByRecursion P ys → AllByRecursion P (xs ++ ys)
  all_append [] ys a b = b
  all_append (x ∷ xs) ys a b = (a.0, all_append xs ys a.1 b)

  pub all_at : (xs : List X) (i : ℕ) (x : X) → i < length xs → x ≡ get_or xs i x → AllByRecursion P xs → P x
  all_at [] i x lt is a = absurd (omega arith)
  all_at (y ∷ ys) zero x lt is a = subst P (sym is) a.0
  all_at (y ∷ ys) (suc i) x lt is a = all_at ys i x (omega arith) is a.1

  -- the elements of a part
  pub all_part : (xs : List X) (n k : ℕ) → AllByRecursion P xs → AllByRecursion P (take k (drop n xs))
  all_part xs n k all = front k (drop n xs) (rest n xs all)
    where
      rest : (n : ℕ) (xs : List X) → AllByRecursion P xs → AllByRecursion P (drop n xs)
      rest zero xs all = all
      rest (suc n) [] all = all
      rest (suc n) (x ∷ xs) all = rest n xs all.1

      front : (k : ℕ) (xs : List X) → AllByRecursion P xs → AllByRecursion P (take k xs)
      front zero xs all = tt
      front (suc k) [] all = tt
      front (suc k) (x ∷ xs) all = (all.0, front k xs all.1)

pub all_same : {X : Type 0} (P Q : X → Type 0) → ((x : X) → P x → Q x) → (xs : List X) → AllByRecursion P xs → AllByRecursion Q xs
all_same P Q so [] a = tt
all_same P Q so (x ∷ xs) a = (so x a.0, all_same P Q so xs a.1)

module _ {X : Type 0} where
  -- a list up to a later place
  pub take_to : (xs : List X) (n m : ℕ) → n ≤ m → take m xs ≡ take n xs ++ take (m - n) (drop n xs)
  take_to xs zero m le = ap (λ (k : ℕ). take k xs) (from_none m)
    where
      from_none : (m : ℕ) → m ≡ m - 0
      from_none m = omega arith
  take_to [] (suc n) zero le = absurd (omega (arith, le))
  take_to [] (suc n) (suc m) le = take_none (suc m - suc n)
    where
      take_none : (k : ℕ) → ◌≡◌ {A = List X} [] (take k [])
      take_none zero = refl
      take_none (suc k) = refl
  take_to (x ∷ xs) (suc n) zero le = absurd (omega (arith, le))
  take_to (x ∷ xs) (suc n) (suc m) le = ap (λ l. x ∷ l) (take_to xs n m (omega (arith, le))) ∙ ap (λ (k : ℕ). x ∷ (take n xs ++ take k (drop n xs))) (both_less n m)
    where
      both_less : (n m : ℕ) → m - n ≡ suc m - suc n
      both_less n m = omega arith

  -- an element of the rest
  pub in_rest : (xs : List X) (n i : ℕ) (d : X) → get_or (drop n xs) i d ≡ get_or xs (n + i) d
  in_rest xs zero i d = ap (λ (k : ℕ). get_or xs k d) (from_none i)
    where
      from_none : (i : ℕ) → i ≡ 0 + i
      from_none i = omega arith
  in_rest [] (suc n) i d = none i (suc n + i)
    where
      none : (i j : ℕ) → get_or {A = X} [] i d ≡ get_or [] j d
      none zero zero = refl
      none zero (suc j) = refl
      none (suc i) zero = refl
      none (suc i) (suc j) = refl
  in_rest (x ∷ xs) (suc n) i d = in_rest xs n i d ∙ ap (λ (k : ℕ). get_or (x ∷ xs) k d) (one_more n i)
    where
      one_more : (n i : ℕ) → suc (n + i) ≡ suc n + i
      one_more n i = omega arith

  -- a part that is longer by one
  pub part_more : (xs : List X) (n m : ℕ) (x : X) → n ≤ m → m < length xs → x ≡ get_or xs m x → take (m + 1 - n) (drop n xs) ≡ take (m - n) (drop n xs) ++ x ∷ []
  part_more xs n m x le lt is =
      let size = length-drop n xs in
      let there : n + (m - n) ≡ m = omega (arith, le) in
      ap (λ (k : ℕ). take k (drop n xs)) (longer le)
      ∙ take_more (drop n xs) (m - n) x (omega (arith, le, lt, size))
      ∙ ap (λ y. take (m - n) (drop n xs) ++ y ∷ []) (in_rest xs n (m - n) x ∙ ap (λ k. get_or xs k x) there ∙ sym is)
    where
      longer : n ≤ m → m + 1 - n ≡ m - n + 1
      longer le = omega (arith, le)

  -- an element that was set, and the others
  pub get_set : (xs : List X) (i : ℕ) (x : X) → i < length xs → slice_get (slice_set xs i x) i ≡ Some x
  get_set [] i x lt = absurd (omega arith)
  get_set (y ∷ ys) zero x lt = refl
  get_set (y ∷ ys) (suc i) x lt = get_set ys i x (omega arith)

  pub get_other : (xs : List X) (i j : ℕ) (x : X) → (i ≡ j → ⊥) → slice_get (slice_set xs i x) j ≡ slice_get xs j
  get_other [] i j x other = refl
  get_other (y ∷ ys) zero zero x other = absurd (other refl)
  get_other (y ∷ ys) zero (suc j) x other = refl
  get_other (y ∷ ys) (suc i) zero x other = refl
  get_other (y ∷ ys) (suc i) (suc j) x other = get_other ys i j x (λ e. other (ap suc e))

pub seen_rest : {X Y : Type 0} (f : X → Y) (n : ℕ) (xs : List X) → map f (drop n xs) ≡ drop n (map f xs)
seen_rest f zero xs = refl
seen_rest f (suc n) [] = refl
seen_rest f (suc n) (x ∷ xs) = seen_rest f n xs
