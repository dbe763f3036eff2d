-- The entries of a range of keys in a sorted list are those between two places.
use Rattle.std.proofs.Common.{◌≡◌, ◌+◌, Bool, true, false, cond, not, ◌&&◌, List, [], ◌∷◌, drop, take, filter, Some, None, T, refl, sym, ap, ◌∙◌, add-one}
use Rattle.std.specs.Ordering.{is_lt}
use Rattle.std.specs.FinMap.{is_sorted}
use Rattle.std.specs.FinMap.Entries.{below_all}
use Rattle.bw_key.specs.Order.{KeyBytes, key_cmp}
use Rattle.bw_model.specs.Contents.{is_pair_in_range}
use Rattle.bw_model.specs.Sorted.{place_of}
use Rattle.bw_page.proofs.Truths.{true_holds}
use Rattle.bw_page.proofs.Entries.{sorted_drop}
use Rattle.bw_page.proofs.KeyLemmas.{below_back, upto_trans}
use Rattle.bw_page.proofs.Search.{both, is_before}

-- a key above one that isn't below another isn't below it either
behind : (q k m : KeyBytes) → is_lt (key_cmp k q) ≡ false → is_lt (key_cmp k m) ≡ true → is_lt (key_cmp m q) ≡ false
behind q k m from above = upto_trans q k m from (below_back k m above)

-- what passes one test and then another
pub filter_filter : {X : Type 0} (f p : X → Bool) (xs : List X) → filter p (filter f xs) ≡ filter (λ x. f x && p x) xs
filter_filter f p [] = refl
filter_filter f p (x ∷ xs) = elim (f x) as (λ b. filter p (cond b (x ∷ filter f xs) (filter f xs)) ≡ cond (b && p x) (x ∷ filter (λ v. f v && p v) xs) (filter (λ v. f v && p v) xs)) [
  | true ↦ ap (λ ys. cond (p x) (x ∷ ys) ys) (filter_filter f p xs)
  | false ↦ filter_filter f p xs
]

module _ {X : Type 0} where
  -- whether an entry's key is from the given one on
  abbrev pub is_from : KeyBytes → KeyBytes × X → Bool
  is_from q e = not (is_before q e)

  filter_always : (es : List (KeyBytes × X)) → filter (λ e. true) es ≡ es
  filter_always [] = refl
  filter_always (e ∷ es) = ap (λ xs. e ∷ xs) (filter_always es)

  -- behind a key that isn't below another no entry is
  all_from : (q k : KeyBytes) (es : List (KeyBytes × X)) → is_lt (key_cmp k q) ≡ false → T (below_all key_cmp k es) → filter (is_from q) es ≡ es
  all_from q k [] from h = refl
  all_from q k (e ∷ es) from h =
      let there : is_lt (key_cmp e.0 q) ≡ false = behind q k e.0 from (both _ _ h).0 in
      ap (λ b. cond (not b) (e ∷ filter (is_from q) es) (filter (is_from q) es)) there
      ∙ ap (λ xs. e ∷ xs) (all_from q k es from (true_holds _ (both _ _ h).1))

  none_before : (q k : KeyBytes) (es : List (KeyBytes × X)) → is_lt (key_cmp k q) ≡ false → T (below_all key_cmp k es) → filter (is_before q) es ≡ []
  none_before q k [] from h = refl
  none_before q k (e ∷ es) from h =
      let there : is_lt (key_cmp e.0 q) ≡ false = behind q k e.0 from (both _ _ h).0 in
      ap (λ b. cond b (e ∷ filter (is_before q) es) (filter (is_before q) es)) there
      ∙ none_before q k es from (true_holds _ (both _ _ h).1)

  -- the entries from a key on are those behind its place
  from_place : (q : KeyBytes) (es : List (KeyBytes × X)) → T (is_sorted key_cmp es) → filter (is_from q) es ≡ drop (place_of q es) es
  from_place q [] h = refl
  from_place q (e ∷ es) h = step (from_place q es (true_holds _ (both _ _ h).1)) (is_lt (key_cmp e.0 q)) refl
    where
      step : filter (is_from q) es ≡ drop (place_of q es) es → (b : Bool) → is_lt (key_cmp e.0 q) ≡ b →
          cond (not b) (e ∷ filter (is_from q) es) (filter (is_from q) es) ≡ drop (cond b (place_of q es + 1) 0) (e ∷ es)
      step more true is = more ∙ ap (λ n. drop n (e ∷ es)) (sym (add-one (place_of q es)))
      step more false is = ap (λ xs. e ∷ xs) (all_from q e.0 es is (true_holds _ (both _ _ h).0))

  -- and those below it are those before
  pub upto_place : (q : KeyBytes) (es : List (KeyBytes × X)) → T (is_sorted key_cmp es) → filter (is_before q) es ≡ take (place_of q es) es
  upto_place q [] h = refl
  upto_place q (e ∷ es) h = step (upto_place q es (true_holds _ (both _ _ h).1)) (is_lt (key_cmp e.0 q)) refl
    where
      step : filter (is_before q) es ≡ take (place_of q es) es → (b : Bool) → is_lt (key_cmp e.0 q) ≡ b →
          cond b (e ∷ filter (is_before q) es) (filter (is_before q) es) ≡ take (cond b (place_of q es + 1) 0) (e ∷ es)
      step more true is = ap (λ xs. e ∷ xs) more ∙ ap (λ n. take n (e ∷ es)) (sym (add-one (place_of q es)))
      step more false is = none_before q e.0 es is (true_holds _ (both _ _ h).0)

  pub range_from : (low : KeyBytes) (es : List (KeyBytes × X)) → T (is_sorted key_cmp es) → filter (is_pair_in_range low None) es ≡ drop (place_of low es) es
  range_from low es h = sym (filter_filter (is_from low) (λ e. true) es) ∙ filter_always (filter (is_from low) es) ∙ from_place low es h

  pub range_between : (low high : KeyBytes) (es : List (KeyBytes × X)) → T (is_sorted key_cmp es) →
      filter (is_pair_in_range low (Some high)) es ≡ take (place_of high (drop (place_of low es) es)) (drop (place_of low es) es)
  range_between low high es h =
      sym (filter_filter (is_from low) (is_before high) es)
      ∙ ap (filter (is_before high)) (from_place low es h)
      ∙ upto_place high (drop (place_of low es) es) (sorted_drop (place_of low es) es h)
