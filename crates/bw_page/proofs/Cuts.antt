-- The first entries of a page, and those below a key, are a page's again.
use Rattle.std.proofs.Common.{◌≡◌, ℕ, zero, suc, ◌<◌, Bool, true, false, cond, not, T, List, [], ◌∷◌, take, Option, Some, refl, sym, subst, arith}
use Rattle.std.specs.List.{list_all}
use Rattle.std.specs.Ordering.{is_lt}
use Rattle.std.specs.FinMap.{is_sorted}
use Rattle.std.specs.FinMap.Entries.{below_all, is_sorted-where_key}
use Rattle.bw_key.specs.Order.{KeyBytes, key_cmp}
use Rattle.bw_model.specs.Contents.{is_below_end, is_pair_in_range}
use Rattle.bw_page.specs.Inners.{IsInner}
use Rattle.bw_page.specs.Pages.{BoundsView, IsPage, BeginsAt, below}
use Rattle.bw_page.proofs.Truths.{holds, true_holds, left_of, right_of, both_of}

module _ {X : Type 0} where
  above_first : (k : KeyBytes) (n : ℕ) (es : List (KeyBytes × X)) → T (below_all key_cmp k es) → T (below_all key_cmp k (take n es))
  above_first k zero es h = tt
  above_first k (suc n) [] h = tt
  above_first k (suc n) (e ∷ es) h = both_of _ _ (left_of _ _ h) (above_first k n es (right_of _ _ h))

  pub sorted_first : (n : ℕ) (es : List (KeyBytes × X)) → T (is_sorted key_cmp es) → T (is_sorted key_cmp (take n es))
  sorted_first zero es h = tt
  sorted_first (suc n) [] h = tt
  sorted_first (suc n) (e ∷ es) h = both_of _ _ (above_first e.0 n es (left_of _ _ h)) (sorted_first n es (right_of _ _ h))

  range_first : (low : KeyBytes) (high : Option KeyBytes) (n : ℕ) (es : List (KeyBytes × X)) → T (list_all (is_pair_in_range low high) es) → T (list_all (is_pair_in_range low high) (take n es))
  range_first low high zero es h = tt
  range_first low high (suc n) [] h = tt
  range_first low high (suc n) (e ∷ es) h = both_of _ _ (left_of _ _ h) (range_first low high n es (right_of _ _ h))

  -- the first entries are a page of the same range
  pub first_page : (low : KeyBytes) (high : Option KeyBytes) (side : Option ℕ) (n : ℕ) (es : List (KeyBytes × X)) → IsPage low high side es → IsPage low high side (take n es)
  first_page low high side n es h = record {
    sorted = sorted_first n es h.sorted;
    inside = range_first low high n es h.inside;
    wide = h.wide;
    linked = h.linked;
  }

  pub first_begins : (low : KeyBytes) (n : ℕ) (es : List (KeyBytes × X)) → 0 < n → BeginsAt low es → BeginsAt low (take n es)
  first_begins low n [] some h = absurd h
  first_begins low zero (e ∷ es) some h = absurd (omega arith)
  first_begins low (suc n) (e ∷ es) some h = h

  range_below : (low : KeyBytes) (high : Option KeyBytes) (k : KeyBytes) (es : List (KeyBytes × X)) → T (list_all (is_pair_in_range low high) es) → T (list_all (is_pair_in_range low (Some k)) (below k es))
  range_below low high k [] inside = tt
  range_below low high k (e ∷ es) inside = by (is_lt (key_cmp e.0 k)) refl (range_below low high k es (right_of _ _ inside))
    where
      by : (b : Bool) → is_lt (key_cmp e.0 k) ≡ b → T (list_all (is_pair_in_range low (Some k)) (below k es)) → T (list_all (is_pair_in_range low (Some k)) (cond b (e ∷ below k es) (below k es)))
      by true before rest = both_of _ _ (both_of _ _ (left_of (not (is_lt (key_cmp e.0 low))) (is_below_end high e.0) (left_of (is_pair_in_range low high e) (list_all (is_pair_in_range low high) es) inside)) (true_holds _ before)) rest
      by false before rest = rest

  -- those below a key are a page up to it
  pub narrowed_page : (low : KeyBytes) (high : Option KeyBytes) (side : Option ℕ) (k : KeyBytes) (to : ℕ) (es : List (KeyBytes × X)) → T (is_below_end (Some k) low) → IsPage low high side es → IsPage low (Some k) (Some to) (below k es)
  narrowed_page low high side k to es wide h = record {
    sorted = is_sorted-where_key key_cmp (λ x. is_lt (key_cmp x k)) es h.sorted;
    inside = range_below low high k es h.inside;
    wide = wide;
    linked = refl;
  }

  narrowed_begins : (low k : KeyBytes) (es : List (KeyBytes × X)) → T (is_below_end (Some k) low) → BeginsAt low es → BeginsAt low (below k es)
  narrowed_begins low k [] wide h = absurd h
  narrowed_begins low k (e ∷ es) wide h =
      subst (λ b. BeginsAt low (cond b (e ∷ below k es) (below k es))) (sym (holds _ (subst (λ (x : KeyBytes). T (is_lt (key_cmp x k))) (sym h) wide))) h

  -- a page by parts that are those of another one's first entries
  pub same_first : (b : BoundsView) (n : ℕ) (es fs : List (KeyBytes × X)) → fs ≡ take n es → IsPage b.low b.high b.side es → IsPage b.low b.high b.side fs
  same_first b n es fs is h = subst (λ (l : List (KeyBytes × X)). IsPage b.low b.high b.side l) (sym is) (first_page b.low b.high b.side n es h)

  -- or of its entries below a key
  pub same_below : (b d : BoundsView) (k : KeyBytes) (to : ℕ) (es fs : List (KeyBytes × X)) → d ≡ record { low = b.low; high = Some k; side = Some to } → fs ≡ below k es → T (is_below_end (Some k) b.low) → IsPage b.low b.high b.side es → IsPage d.low d.high d.side fs
  same_below b d k to es fs is es_are wide h =
      subst (λ (l : List (KeyBytes × X)). IsPage d.low d.high d.side l) (sym es_are)
      (subst (λ (c : BoundsView). IsPage c.low c.high c.side (below k es)) (sym is) (narrowed_page b.low b.high b.side k to es wide h))

-- the same of inner pages
pub first_inner : (level : ℕ) (b : BoundsView) (n : ℕ) (es fs : List (KeyBytes × ℕ)) → fs ≡ take n es → 0 < n → IsInner level b.low b.high b.side es → IsInner level b.low b.high b.side fs
first_inner level b n es fs is some h = record {
  raised = h.raised;
  page = same_first b n es fs is h.page;
  begins = subst (BeginsAt b.low) (sym is) (first_begins b.low n es some h.begins);
}

pub narrowed_inner_page : (level : ℕ) (b d : BoundsView) (k : KeyBytes) (to : ℕ) (es fs : List (KeyBytes × ℕ)) → d ≡ record { low = b.low; high = Some k; side = Some to } → fs ≡ below k es → T (is_below_end (Some k) b.low) → IsInner level b.low b.high b.side es → IsInner level d.low d.high d.side fs
narrowed_inner_page level b d k to es fs is es_are wide h = record {
  raised = h.raised;
  page = same_below b d k to es fs is es_are wide h.page;
  begins =
      subst (λ (c : BoundsView). BeginsAt c.low fs) (sym is)
      (subst (BeginsAt b.low) (sym es_are) (narrowed_begins b.low k es wide h.begins));
}
