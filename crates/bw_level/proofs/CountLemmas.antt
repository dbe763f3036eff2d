-- How many entries there are below a key, and with one more.
use Rattle.std.proofs.Common.{◌≡◌, ℕ, zero, suc, ◌+◌, ◌<◌, ◌≤◌, Bool, true, false, cond, T, List, [], ◌∷◌, length, get_or, Option, Some, None, refl, sym, ap, ◌∙◌, arith, add-one}
use Rattle.std.proofs.lemmas.List.{length-set}
use Rattle.std.proofs.lemmas.List.Edits.{length-insert}
use Rattle.std.specs.Ordering.{is_lt}
use Rattle.std.specs.FinMap.{is_sorted, put}
use Rattle.std.specs.FinMap.Entries.{below_all}
use Rattle.bw_key.specs.Order.{KeyBytes, key_cmp, key_eq}
use Rattle.bw_model.specs.Sorted.{place_of}
use Rattle.bw_model.proofs.SortedPairs.{put_found_at, put_absent_at}
use Rattle.bw_page.proofs.KeyLemmas.{below_back, upto_below}
use Rattle.bw_page.proofs.Truths.{holds, left_of, right_of}
use Rattle.bw_page.specs.Pages.{below}
use Rattle.bw_level.specs.Walk.{walked, through}

module _ {X : Type 0} where
  -- none is below a key that the first isn't below
  none_from : (k first : KeyBytes) (es : List (KeyBytes × X)) → is_lt (key_cmp first k) ≡ false → T (below_all key_cmp first es) → below k es ≡ []
  none_from k first [] from above = refl
  none_from k first (e ∷ es) from above =
      ap (λ b. cond b (e ∷ below k es) (below k es)) (below_back k e.0 (upto_below k first e.0 from (holds _ (left_of _ _ above))))
      ∙ none_from k first es from (right_of _ _ above)

  -- the place of a key is how many are below it
  pub count_is : (k : KeyBytes) (es : List (KeyBytes × X)) → T (is_sorted key_cmp es) → place_of k es ≡ length (below k es)
  count_is k [] sorted = refl
  count_is k (e ∷ es) sorted = by (is_lt (key_cmp e.0 k)) refl (count_is k es (right_of _ _ sorted))
    where
      by : (b : Bool) → is_lt (key_cmp e.0 k) ≡ b → place_of k es ≡ length (below k es) → cond b (place_of k es + 1) 0 ≡ length (cond b (e ∷ below k es) (below k es))
      by true is rest = add-one (place_of k es) ∙ ap suc rest
      by false is rest = sym (ap length (none_from k e.0 es is (left_of _ _ sorted)))

  -- with an entry in the place of one there are as many, and else one more
  pub length_found : (k : KeyBytes) (v : X) (es : List (KeyBytes × X)) (n : ℕ) (x : KeyBytes × X) → n ≡ place_of k es → n < length es → x ≡ get_or es n x → key_eq x.0 k ≡ true → length es ≡ length (put key_cmp k v es)
  length_found k v es n x at lt is same = sym (length-set es n (x.0, v)) ∙ ap length (put_found_at k v es n x x at lt is is same)

  pub length_absent : (k : KeyBytes) (v : X) (es : List (KeyBytes × X)) (n : ℕ) → n ≡ place_of k es → n ≤ length es → (n < length es → (x : KeyBytes × X) × (x ≡ get_or es n x) × (key_eq x.0 k ≡ false)) → length es + 1 ≡ length (put key_cmp k v es)
  length_absent k v es n at le other = sym (length-insert es n (k, v) le) ∙ ap length (put_absent_at k v es n at other)

-- no more places are walked than steps are allowed
pub walk_fits : (next : ℕ → Option ℕ) (n p : ℕ) → length (walked next n p) ≤ n
unfolding walked
walk_fits next zero p = omega arith
walk_fits next (suc n) p = by (next p) (λ q. walk_fits next n q)
  where
    by : (o : Option ℕ) → ((q : ℕ) → length (walked next n q) ≤ n) → length (through o (λ q. p ∷ walked next n q)) ≤ suc n
    by None rest = omega arith
    by (Some q) rest = omega (arith, rest q)
