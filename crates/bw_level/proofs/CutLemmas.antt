-- Sorted entries, cut at a place.
use Rattle.std.proofs.Common.{◌≡◌, ℕ, zero, suc, ◌<◌, Bool, true, false, cond, not, T, List, [], ◌∷◌, length, take, drop, Option, Some, None, refl, sym, ap, ◌∙◌, subst, arith}
use Rattle.std.specs.List.{list_all}
use Rattle.std.specs.Ordering.{is_lt, is_eq, eq_by_cmp}
use Rattle.std.specs.declared.cmp.Ordering.{Ordering}
use Rattle.std.specs.declared.cmp.Ordering.TheVariants.{Less, Equal, Greater}
use Rattle.std.specs.FinMap.{find, is_sorted}
use Rattle.std.specs.FinMap.Entries.{below_all, find-where_key}
use Rattle.bw_key.specs.Order.{KeyBytes, key_cmp}
use Rattle.bw_model.specs.Contents.{is_below_end, is_pair_in_range}
use Rattle.bw_page.specs.Inners.{IsInner}
use Rattle.bw_page.specs.Pages.{IsPage, below, first_key}
use Rattle.bw_page.proofs.Cuts.{first_begins, narrowed_page}
use Rattle.bw_page.proofs.KeyLemmas.{below_back, below_self, keys_tie, upto_below}
use Rattle.bw_page.proofs.Truths.{holds, true_holds, holds_not, left_of, right_of}

different : true ≡ false → ⊥
different e = cc

tied : (o : Ordering) → is_eq o ≡ true → o ≡ Equal
tied Less e = cc
tied Equal e = refl
tied Greater e = cc

module _ {X : Type 0} where
  none_below : (k : KeyBytes) (es : List (KeyBytes × X)) → T (below_all key_cmp k es) → below k es ≡ []
  none_below k [] above = refl
  none_below k (e ∷ es) above =
      ap (λ b. cond b (e ∷ below k es) (below k es)) (below_back k e.0 (holds _ (left_of _ _ above)))
      ∙ none_below k es (right_of _ _ above)

  first_above : (k : KeyBytes) (n : ℕ) (es : List (KeyBytes × X)) → T (below_all key_cmp k es) → n < length es → is_lt (key_cmp k (first_key (drop n es))) ≡ true
  first_above k n [] above lt = absurd (omega arith)
  first_above k zero (e ∷ es) above lt = holds _ (left_of _ _ above)
  first_above k (suc n) (e ∷ es) above lt = first_above k n es (right_of _ _ above) (omega arith)

  -- the first entries are those below the first key of the others
  below_first : (n : ℕ) (es : List (KeyBytes × X)) → T (is_sorted key_cmp es) → n < length es → below (first_key (drop n es)) es ≡ take n es
  below_first n [] sorted lt = absurd (omega arith)
  below_first zero (e ∷ es) sorted lt =
      ap (λ b. cond b (e ∷ below e.0 es) (below e.0 es)) (below_self e.0) ∙ none_below e.0 es (left_of _ _ sorted)
  below_first (suc n) (e ∷ es) sorted lt =
      let k = first_key (drop n es) in
      ap (λ b. cond b (e ∷ below k es) (below k es)) (first_above e.0 n es (left_of _ _ sorted) (omega arith))
      ∙ ap (λ (l : List (KeyBytes × X)). e ∷ l) (below_first n es (right_of _ _ sorted) (omega arith))

  -- so they are still there where the entries were cut
  pub below_cut : (n : ℕ) (es : List (KeyBytes × X)) → T (is_sorted key_cmp es) → n < length es → below (first_key (drop n es)) (take n es) ≡ take n es
  below_cut n [] sorted lt = absurd (omega arith)
  below_cut zero (e ∷ es) sorted lt = refl
  below_cut (suc n) (e ∷ es) sorted lt =
      let k = first_key (drop n es) in
      ap (λ b. cond b (e ∷ below k (take n es)) (below k (take n es))) (first_above e.0 n es (left_of _ _ sorted) (omega arith))
      ∙ ap (λ (l : List (KeyBytes × X)). e ∷ l) (below_cut n es (right_of _ _ sorted) (omega arith))

  -- a key below it is found among them
  pub find_first : (n : ℕ) (key : KeyBytes) (es : List (KeyBytes × X)) → T (is_sorted key_cmp es) → n < length es → is_lt (key_cmp key (first_key (drop n es))) ≡ true → find key_cmp key (take n es) ≡ find key_cmp key es
  find_first n key es sorted lt before =
      let k = first_key (drop n es) in
      ap (find key_cmp key) (sym (below_first n es sorted lt))
      ∙ find-where_key key_cmp (λ x. is_lt (key_cmp x k)) key (λ x tie. ap (λ (y : KeyBytes). is_lt (key_cmp y k)) (sym (keys_tie key x tie))) es
      ∙ ap (λ b. cond b (find key_cmp key es) None) before

  -- and another one among the others
  pub find_other : (n : ℕ) (key : KeyBytes) (es : List (KeyBytes × X)) → T (is_sorted key_cmp es) → n < length es → is_lt (key_cmp key (first_key (drop n es))) ≡ false → find key_cmp key (drop n es) ≡ find key_cmp key es
  find_other n key [] sorted lt from = absurd (omega arith)
  find_other zero key (e ∷ es) sorted lt from = refl
  find_other (suc n) key (e ∷ es) sorted lt from =
      let before : is_lt (key_cmp e.0 (first_key (drop n es))) ≡ true = first_above e.0 n es (left_of _ _ sorted) (omega arith) in
      find_other n key es (right_of _ _ sorted) (omega arith) from
      ∙ sym (ap (λ b. cond b (Some e.1) (find key_cmp key es)) (untied (eq_by_cmp key_cmp key e.0) refl before))
    where
      untied : (b : Bool) → eq_by_cmp key_cmp key e.0 ≡ b → is_lt (key_cmp e.0 (first_key (drop n es))) ≡ true → eq_by_cmp key_cmp key e.0 ≡ false
      untied false is before = is
      untied true is before = absurd (different (sym before ∙ ap (λ (y : KeyBytes). is_lt (key_cmp y (first_key (drop n es)))) (sym (keys_tie key e.0 (tied (key_cmp key e.0) is))) ∙ from))

  -- they are a page up to there
  pub lower_page : (low : KeyBytes) (high : Option KeyBytes) (side : Option ℕ) (to : ℕ) (es : List (KeyBytes × X)) (n : ℕ) → IsPage low high side es → 0 < n → n < length es → IsPage low (Some (first_key (drop n es))) (Some to) (take n es)
  lower_page low high side to es n h some lt =
      let k = first_key (drop n es) in
      let same = below_first n es h.sorted lt in
      subst (λ (l : List (KeyBytes × X)). IsPage low (Some k) (Some to) l) same (narrowed_page low high side k to es (true_holds _ (from_first n es h.sorted h.inside some lt)) h)
    where
      from_first : (n : ℕ) (es : List (KeyBytes × X)) → T (is_sorted key_cmp es) → T (list_all (is_pair_in_range low high) es) → 0 < n → n < length es → is_lt (key_cmp low (first_key (drop n es))) ≡ true
      from_first n [] sorted inside some lt = absurd (omega arith)
      from_first zero (e ∷ es) sorted inside some lt = absurd (omega arith)
      from_first (suc n) (e ∷ es) sorted inside some lt =
          upto_below low e.0 (first_key (drop n es))
          (holds_not _ (left_of (not (is_lt (key_cmp e.0 low))) (is_below_end high e.0) (left_of (is_pair_in_range low high e) (list_all (is_pair_in_range low high) es) inside)))
          (first_above e.0 n es (left_of _ _ sorted) (omega arith))

-- of an inner page too
pub lower_inner : (level : ℕ) (low : KeyBytes) (high : Option KeyBytes) (side : Option ℕ) (to : ℕ) (es : List (KeyBytes × ℕ)) (n : ℕ) → IsInner level low high side es → 0 < n → n < length es → IsInner level low (Some (first_key (drop n es))) (Some to) (take n es)
lower_inner level low high side to es n h some lt = record {
  raised = h.raised;
  page = lower_page low high side to es n h.page some lt;
  begins = first_begins low n es some h.begins;
}
