-- Ranges of keys in which a tree has no pair.
use Rattle.std.proofs.Common.{◌≡◌, ℕ, Bool, true, false, cond, not, ◌⊎◌, inl, inr, T, List, [], ◌∷◌, length, nat_lt, take, Option, Some, None, refl, sym, ap, ◌∙◌, arith}
use Rattle.std.proofs.lemmas.Bool.Decides.{nat_tests}
use Rattle.std.specs.Prelude.{filter}
use Rattle.std.specs.Ordering.{is_lt}
use Rattle.std.specs.FinMap.{entries, entries_sorted, find, get, get-entries, is_sorted}
use Rattle.std.specs.FinMap.Entries.{find-where_key, is_sorted-where_key, same_entries, where_key}
use Rattle.bw_key.specs.Order.{KeyBytes, key_cmp, key_cmp_total}
use Rattle.bw_model.specs.Contents.{Contents, is_below_end, is_in_range, is_pair_in_range, pairs_of_range}
use Rattle.bw_model.specs.Values.{ValueBytes}
use Rattle.bw_page.proofs.Truths.{both_of, holds, holds_not, left_of, right_of, true_holds}
use Rattle.bw_page.proofs.KeyLemmas.{below_self, below_upto, keys_tie, upto_trans}
use Rattle.bw_delta.proofs.ContentsAsOf.{only_equal_tie}
use Rattle.bw_delta.proofs.PairMaps.{find_in_range, sorted_in_range}
use Rattle.bw_level.specs.Scans.{Reaches}
use Rattle.bw_scan.specs.Gaps.{HasNone}
use Rattle.bw_look.specs.View.{TreeView, contents_at}

different : true ≡ false → ⊥
different e = cc

pub not_true : (b : Bool) → not b ≡ true → b ≡ false
not_true true e = sym e
not_true false e = refl

-- a key that an end of keys below another one isn't below
pub not_later : (end later : KeyBytes) → Reaches (Some later) (Some end) → is_lt (key_cmp later end) ≡ false
not_later end later reaches = by (is_lt (key_cmp later end)) refl
  where
    by : (b : Bool) → is_lt (key_cmp later end) ≡ b → is_lt (key_cmp later end) ≡ false
    by false e = e
    by true e = absurd (different (sym (holds _ (reaches later (true_holds _ e))) ∙ below_self later))

-- a key that isn't below an end reaches it
pub past_end : (to : Option KeyBytes) (k : KeyBytes) → is_below_end to k ≡ false → Reaches (Some k) to
past_end None k e key below = absurd (different e)
past_end (Some t) k e key below = true_holds _ (below_upto key t k (holds _ below) e)

module _ (m : Contents ValueBytes) (from : KeyBytes) (to : Option KeyBytes) where
  abbrev all : List (KeyBytes × ValueBytes)
  all = pairs_of_range m from to

  -- tests that differ only at keys without a value are passed by the same pairs
  same_pairs : (p q : KeyBytes → Bool) → ((key : KeyBytes) → (p key ≡ q key) ⊎ (get m key ≡ None)) → where_key key_cmp p all ≡ where_key key_cmp q all
  same_pairs p q same =
      same_entries key_cmp key_cmp_total only_equal_tie (where_key key_cmp p all) (where_key key_cmp q all) (sorted p) (sorted q)
      (λ key. at p key ∙ by key (same key) ∙ sym (at q key))
    where
      sorted : (t : KeyBytes → Bool) → T (is_sorted key_cmp (where_key key_cmp t all))
      sorted t = is_sorted-where_key key_cmp t all (sorted_in_range from to (entries m) (entries_sorted m))

      at : (t : KeyBytes → Bool) (key : KeyBytes) → find key_cmp key (where_key key_cmp t all) ≡ cond (t key) (find key_cmp key all) None
      at t key = find-where_key key_cmp t key (λ x tie. ap t (sym (keys_tie key x tie))) all

      value : (key : KeyBytes) → find key_cmp key all ≡ cond (is_in_range from to key) (get m key) None
      value key = find_in_range from to key (entries m) ∙ ap (λ v. cond (is_in_range from to key) v None) (sym (get-entries m key))

      nothing : (b : Bool) (v : Option ValueBytes) → v ≡ None → cond b v None ≡ None
      nothing true v e = e
      nothing false v e = refl

      by : (key : KeyBytes) → (p key ≡ q key) ⊎ (get m key ≡ None) → cond (p key) (find key_cmp key all) None ≡ cond (q key) (find key_cmp key all) None
      by key (inl e) = ap (λ b. cond b (find key_cmp key all) None) e
      by key (inr none) =
          let out = value key ∙ nothing (is_in_range from to key) (get m key) none in
          nothing (p key) (find key_cmp key all) out ∙ sym (nothing (q key) (find key_cmp key all) out)

  -- so behind an end a range without pairs adds nothing
  pub none_between : (end : KeyBytes) (next : Option KeyBytes) → ((key : KeyBytes) → T (is_in_range end next key) → get m key ≡ None) → Reaches next (Some end) →
      where_key key_cmp (λ k. is_lt (key_cmp k end)) all ≡ where_key key_cmp (is_below_end next) all
  none_between end next none behind = same_pairs (λ k. is_lt (key_cmp k end)) (is_below_end next) (λ key. by key (is_lt (key_cmp key end)) (is_below_end next key) refl refl)
    where
      by : (key : KeyBytes) (a b : Bool) → is_lt (key_cmp key end) ≡ a → is_below_end next key ≡ b → (is_lt (key_cmp key end) ≡ is_below_end next key) ⊎ (get m key ≡ None)
      by key true true e f = inl (e ∙ sym f)
      by key true false e f = absurd (different (sym (holds _ (behind key (true_holds _ e))) ∙ f))
      by key false true e f = inr (none key (both_of _ _ (true_holds _ (ap not e)) (true_holds _ f)))
      by key false false e f = inl (e ∙ sym f)

  -- nor before a key
  pub none_before : (before low : KeyBytes) → ((key : KeyBytes) → T (is_in_range before (Some low) key) → get m key ≡ None) → is_lt (key_cmp low before) ≡ false →
      where_key key_cmp (λ k. not (is_lt (key_cmp k low))) all ≡ where_key key_cmp (λ k. not (is_lt (key_cmp k before))) all
  none_before before low none upto = same_pairs (λ k. not (is_lt (key_cmp k low))) (λ k. not (is_lt (key_cmp k before))) (λ key. by key (is_lt (key_cmp key low)) (is_lt (key_cmp key before)) refl refl)
    where
      by : (key : KeyBytes) (a b : Bool) → is_lt (key_cmp key low) ≡ a → is_lt (key_cmp key before) ≡ b → (not (is_lt (key_cmp key low)) ≡ not (is_lt (key_cmp key before))) ⊎ (get m key ≡ None)
      by key true true e f = inl (ap not (e ∙ sym f))
      by key true false e f = inr (none key (both_of _ _ (true_holds _ (ap not f)) (true_holds _ e)))
      by key false true e f = absurd (different (sym (below_upto key before low f upto) ∙ e))
      by key false false e f = inl (ap not (e ∙ sym f))

-- no pairs are an empty list
pub is_empty : (pairs : List (KeyBytes × ValueBytes)) (count : ℕ) → nat_lt 0 count ≡ false → count ≡ length pairs → pairs ≡ []
is_empty [] count none is = refl
is_empty (x ∷ xs) count none is = absurd (omega (arith, is, none_counted count none))
  where
    none_counted : (n : ℕ) → nat_lt 0 n ≡ false → n ≡ 0
    none_counted n e = grind (arith, nat_tests)

-- where not one pair of a range is taken there is none
pub none_there : (low : KeyBytes) (high : Option KeyBytes) (pairs : List (KeyBytes × ValueBytes)) → take 1 (filter (is_pair_in_range low high) pairs) ≡ [] → (key : KeyBytes) → T (is_in_range low high key) → find key_cmp key pairs ≡ None
none_there low high pairs none key inside =
    sym (ap (λ b. cond b (find key_cmp key pairs) None) (holds _ inside))
    ∙ sym (find_in_range low high key pairs) ∙ ap (find key_cmp key) (nothing (filter (is_pair_in_range low high) pairs) none)
  where
    nothing : (xs : List (KeyBytes × ValueBytes)) → take 1 xs ≡ [] → xs ≡ []
    nothing [] e = refl
    nothing (x ∷ xs) e = absurd (some e)
      where
        some : x ∷ take 0 xs ≡ [] → ⊥
        some e = cc

module _ (tree : TreeView) (stamp : ℕ) where
  -- two ranges without pairs, of which the second begins no later than the first ends
  pub none_in_both : (low mid : KeyBytes) (high end : Option KeyBytes) → HasNone tree stamp low high → HasNone tree stamp mid end → Reaches high (Some mid) → HasNone tree stamp low end
  none_in_both low mid high end first second beside key inside = by (is_lt (key_cmp key mid)) refl
    where
      by : (b : Bool) → is_lt (key_cmp key mid) ≡ b → get (contents_at tree stamp) key ≡ None
      by true e = first key (both_of _ _ (left_of _ _ inside) (beside key (true_holds _ e)))
      by false e = second key (both_of _ _ (true_holds _ (ap not e)) (right_of _ _ inside))

  -- a part of a range without pairs, from a later key on
  pub none_from : (low later : KeyBytes) (end : Option KeyBytes) → HasNone tree stamp low end → is_lt (key_cmp later low) ≡ false → HasNone tree stamp later end
  none_from low later end none upto key inside =
      none key (both_of _ _ (true_holds _ (ap not (upto_trans low later key upto (holds_not _ (left_of _ _ inside))))) (right_of _ _ inside))

  -- and one below an earlier end
  pub none_below : (low : KeyBytes) (end earlier : Option KeyBytes) → HasNone tree stamp low end → Reaches end earlier → HasNone tree stamp low earlier
  none_below low end earlier none reaches key inside = none key (both_of _ _ (left_of _ _ inside) (reaches key (right_of _ _ inside)))
