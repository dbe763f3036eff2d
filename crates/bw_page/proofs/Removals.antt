-- One entry taken away from a sorted list.
use Rattle.std.proofs.Common.{◌≡◌, ℕ, zero, suc, ◌+◌, ◌<◌, Bool, true, false, cond, not, T, List, [], ◌∷◌, length, get_or, filter, refl, sym, ap, ◌∙◌, arith}
use Rattle.std.specs.List.{remove}
use Rattle.std.specs.Ordering.{is_eq, is_lt}
use Rattle.std.specs.FinMap.{is_sorted}
use Rattle.std.specs.FinMap.Entries.{below_all}
use Rattle.bw_key.specs.Order.{KeyBytes, key_cmp, key_eq, key_ties}
use Rattle.bw_model.specs.Sorted.{place_of}
use Rattle.bw_page.proofs.Truths.{true_holds}
use Rattle.bw_page.proofs.KeyLemmas.{below_trans, cmp_self}
use Rattle.bw_page.proofs.Search.{Misses, both, less_no_tie, not_tied, over, same_keys}

-- keys of which one is below the other differ
below_differs : (q k : KeyBytes) → is_lt (key_cmp q k) ≡ true → key_eq q k ≡ false
below_differs q k h = key_ties q k ∙ less_no_tie q k h

above_differs : (q k : KeyBytes) → is_lt (key_cmp k q) ≡ true → key_eq q k ≡ false
above_differs q k h = key_ties q k ∙ not_tied q k h

module _ {X : Type 0} (q : KeyBytes) where
  abbrev pub without : List (KeyBytes × X) → List (KeyBytes × X)
  without es = filter (λ e. not (key_eq q e.0)) es

  -- entries above the key stay
  all_stay : (k : KeyBytes) (es : List (KeyBytes × X)) → is_lt (key_cmp q k) ≡ true → T (below_all key_cmp k es) → without es ≡ es
  all_stay k [] above h = refl
  all_stay k (e ∷ es) above h =
      let differs : key_eq q e.0 ≡ false = below_differs q e.0 (below_trans q k e.0 above (both _ _ h).0) in
      ap (λ b. cond (not b) (e ∷ without es) (without es)) differs ∙ ap (λ l. e ∷ l) (all_stay k es above (true_holds _ (both _ _ h).1))

  -- and so do those behind the key
  rest_stays : (k : KeyBytes) (es : List (KeyBytes × X)) → k ≡ q → T (below_all key_cmp k es) → without es ≡ es
  rest_stays k [] tie h = refl
  rest_stays k (e ∷ es) tie h =
      let above : is_lt (key_cmp q e.0) ≡ true = ap (λ (m : KeyBytes). is_lt (key_cmp m e.0)) (sym tie) ∙ (both _ _ h).0 in
      ap (λ b. cond (not b) (e ∷ without es) (without es)) (below_differs q e.0 above) ∙ ap (λ l. e ∷ l) (rest_stays k es tie (true_holds _ (both _ _ h).1))

  pub without_there : (es : List (KeyBytes × X)) (n : ℕ) (x : KeyBytes × X) → T (is_sorted key_cmp es) → n ≡ place_of q es → n < length es → x ≡ get_or es n x → key_eq x.0 q ≡ true →
      without es ≡ remove es n
  without_there [] n x sorted at lt is same = absurd (omega arith)
  without_there (e ∷ es) n x sorted at lt is same =
      by (λ m at lt is. without_there es m x (true_holds _ (both _ _ sorted).1) at lt is same) (is_lt (key_cmp e.0 q)) refl n at lt is
    where
      by : ((m : ℕ) → m ≡ place_of q es → m < length es → x ≡ get_or es m x → without es ≡ remove es m) →
          (b : Bool) → is_lt (key_cmp e.0 q) ≡ b → (n : ℕ) → n ≡ cond b (place_of q es + 1) 0 → n < suc (length es) → x ≡ get_or (e ∷ es) n x → without (e ∷ es) ≡ remove (e ∷ es) n
      by more true less zero at lt is = absurd (omega (arith, at))
      by more true less (suc n) at lt is =
          ap (λ b. cond (not b) (e ∷ without es) (without es)) (above_differs q e.0 less)
          ∙ ap (λ l. e ∷ l) (more n (omega (arith, at)) (omega (arith, lt)) is)
      by more false less zero at lt is =
          let tie : e.0 ≡ q = ap (λ (y : KeyBytes × X). y.0) (sym is) ∙ same_keys x.0 q same in
          let equal : key_eq q e.0 ≡ true = key_ties q e.0 ∙ ap (λ (k : KeyBytes). is_eq (key_cmp q k)) tie ∙ ap is_eq (cmp_self q) in
          ap (λ b. cond (not b) (e ∷ without es) (without es)) equal ∙ rest_stays e.0 es tie (true_holds _ (both _ _ sorted).0)
      by more false less (suc n) at lt is = absurd (omega (arith, at))

  pub without_missing : (es : List (KeyBytes × X)) (n : ℕ) → T (is_sorted key_cmp es) → n ≡ place_of q es → Misses q es n → without es ≡ es
  without_missing [] n sorted at other = refl
  without_missing (e ∷ es) n sorted at other = by (λ m at other. without_missing es m (true_holds _ (both _ _ sorted).1) at other) (is_lt (key_cmp e.0 q)) refl n at other
    where
      by : ((m : ℕ) → m ≡ place_of q es → Misses q es m → without es ≡ es) →
          (b : Bool) → is_lt (key_cmp e.0 q) ≡ b → (n : ℕ) → n ≡ cond b (place_of q es + 1) 0 → Misses q (e ∷ es) n → without (e ∷ es) ≡ e ∷ es
      by more true less zero at other = absurd (omega (arith, at))
      by more true less (suc n) at other =
          ap (λ b. cond (not b) (e ∷ without es) (without es)) (above_differs q e.0 less)
          ∙ ap (λ l. e ∷ l) (more n (omega (arith, at)) (λ lt. other (omega (arith, lt))))
      by more false less (suc n) at other = absurd (omega (arith, at))
      by more false less zero at other =
          let there = other (omega arith) in
          let differs : key_eq e.0 q ≡ false = ap (λ (y : KeyBytes × X). key_eq y.0 q) (sym there.1) ∙ there.2 in
          let above = over q e.0 less differs in
          ap (λ b. cond (not b) (e ∷ without es) (without es)) (below_differs q e.0 above) ∙ ap (λ l. e ∷ l) (all_stay e.0 es above (true_holds _ (both _ _ sorted).0))
