-- A list of the first elements that pass a test, picked one by one, up to a number of them.
use Rattle.std.proofs.Common.{◌≡◌, ℕ, suc, ◌+◌, ◌-◌, ◌<◌, ◌≤◌, Bool, true, false, cond, ◌&&◌, List, [], ◌∷◌, ◌++◌, length, get_or, take, drop, refl, sym, ap, subst, ◌∙◌, arith, add-one, drop-cons, append_assoc, append-nil, length-append}
use Rattle.std.specs.Prelude.{filter, reverse, nat_lt}
use Rattle.std.proofs.lemmas.List.Elements.{filter-append}
use Rattle.std.proofs.lemmas.List.{reverse-append}
use Rattle.std.proofs.lemmas.Bool.{ltb-true, ltb-false}
use Rattle.bw_model.specs.Sorted.{with_pick}

one_less : (most n m : ℕ) → n < most → m ≡ n + 1 → most - n ≡ (most - m) + 1
one_less most n m lt e = omega arith

module _ {X : Type 0} where
  -- what was picked, and what is still to come of the rest, make the whole
  pub record IsPicking (test : X → Bool) (most : ℕ) (picked rest whole : List X) : Type 0 where
    pub is : picked ++ take (most - length picked) (filter test rest) ≡ whole

  -- one more is picked
  picked_one : (most : ℕ) (picked : List X) (x : X) (rest : List X) → length picked < most →
      (picked ++ x ∷ []) ++ take (most - length (picked ++ x ∷ [])) rest ≡ picked ++ take (most - length picked) (x ∷ rest)
  picked_one most picked x rest lt =
      let fewer = one_less most (length picked) (length (picked ++ x ∷ [])) lt (length-append picked (x ∷ [])) in
      append_assoc picked (x ∷ []) (take (most - length (picked ++ x ∷ [])) rest)
      ∙ ap (λ (k : ℕ). picked ++ take k (x ∷ rest)) (sym (fewer ∙ add-one _))

  -- there are enough
  full : (most : ℕ) (picked xs ys : List X) → most ≤ length picked →
      picked ++ take (most - length picked) xs ≡ picked ++ take (most - length picked) ys
  full most picked xs ys enough =
      let none : most - length picked ≡ 0 = omega arith in
      ap (λ (k : ℕ). picked ++ take k xs) none ∙ sym (ap (λ (k : ℕ). picked ++ take k ys) none)

  one_step : (most : ℕ) (picked : List X) (x : X) (rest : List X) (room passes : Bool) → nat_lt (length picked) most ≡ room →
      cond (room && passes) (picked ++ x ∷ []) picked ++ take (most - length (cond (room && passes) (picked ++ x ∷ []) picked)) rest
      ≡ picked ++ take (most - length picked) (cond passes (x ∷ rest) rest)
  one_step most picked x rest true true e = picked_one most picked x rest (ltb-true (length picked) most e)
  one_step most picked x rest true false e = refl
  one_step most picked x rest false true e = full most picked rest (x ∷ rest) (ltb-false (length picked) most e)
  one_step most picked x rest false false e = refl

  -- the next element is picked, or passed over
  pub picks : (test : X → Bool) (most : ℕ) (picked : List X) (x : X) (rest whole : List X) →
      IsPicking test most picked (x ∷ rest) whole → IsPicking test most (with_pick test most picked x) rest whole
  picks test most picked x rest whole so =
      record { is = one_step most picked x (filter test rest) (nat_lt (length picked) most) (test x) refl ∙ so.is }

  -- at place i of a list
  pub picks_at : (test : X → Bool) (most : ℕ) (picked : List X) (xs : List X) (i : ℕ) (x : X) (whole : List X) → i < length xs → x ≡ get_or xs i x →
      IsPicking test most picked (drop i xs) whole → IsPicking test most (with_pick test most picked x) (drop (i + 1) xs) whole
  picks_at test most picked xs i x whole lt is so =
      let here : drop i xs ≡ x ∷ drop (i + 1) xs = drop-cons xs i x lt ∙ ap (λ y. y ∷ drop (suc i) xs) (sym is) ∙ ap (λ k. x ∷ drop k xs) (sym (add-one i)) in
      picks test most picked x (drop (i + 1) xs) whole (subst (λ rest. IsPicking test most picked rest whole) here so)

  -- the elements that pass, in either order
  pub filter-reverse : (test : X → Bool) (xs : List X) → filter test (reverse xs) ≡ reverse (filter test xs)
  filter-reverse test [] = refl
  filter-reverse test (x ∷ xs) =
      ap (filter test) (reverse-append (x ∷ []) xs)
      ∙ filter-append test (reverse xs) (x ∷ [])
      ∙ ap (λ ys. ys ++ filter test (x ∷ [])) (filter-reverse test xs)
      ∙ last (test x)
    where
      last : (passes : Bool) → reverse (filter test xs) ++ cond passes (x ∷ []) [] ≡ reverse (cond passes (x ∷ filter test xs) (filter test xs))
      last true = sym (reverse-append (x ∷ []) (filter test xs))
      last false = append-nil (reverse (filter test xs))

  -- nothing was picked yet, from the end of a list
  pub picks_back : (test : X → Bool) (most : ℕ) (picked whole rest : List X) → picked ≡ [] → rest ≡ whole →
      IsPicking test most picked (reverse rest) (take most (reverse (filter test whole)))
  picks_back test most picked whole rest none is =
      let all : most - length picked ≡ most = omega (arith, ap length none) in
      record {
        is = ap (λ (k : ℕ). picked ++ take k (filter test (reverse rest))) all
            ∙ ap (λ ys. ys ++ take most (filter test (reverse rest))) none
            ∙ ap (λ ys. take most (filter test (reverse ys))) is ∙ ap (take most) (filter-reverse test whole);
      }

  -- the last element of what is left
  pub picks_last : (test : X → Bool) (most : ℕ) (picked : List X) (x : X) (rest rest' whole : List X) → rest ≡ rest' ++ x ∷ [] →
      IsPicking test most picked (reverse rest) whole → IsPicking test most (with_pick test most picked x) (reverse rest') whole
  picks_last test most picked x rest rest' whole is so =
      picks test most picked x (reverse rest') whole
      (subst (λ ys. IsPicking test most picked ys whole) (ap reverse is ∙ reverse-append rest' (x ∷ [])) so)
