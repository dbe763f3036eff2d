-- The pairs of a range over the leaves of a tree, one leaf after another.
use Rattle.std.proofs.Common.{◌≡◌, ℕ, ◌<◌, ◌≤◌, Bool, true, false, not, ◌&&◌, ◌||◌, T, List, [], ◌∷◌, ◌++◌, length, take, Option, Some, None, refl, sym, ap, ◌∙◌, subst}
use Rattle.std.specs.Prelude.{filter}
use Rattle.std.specs.Ordering.{is_lt}
use Rattle.std.specs.FinMap.{entries, entries_sorted, is_sorted}
use Rattle.std.specs.FinMap.Entries.{where_key}
use Rattle.bw_key.specs.Order.{KeyBytes, key_cmp}
use Rattle.bw_model.specs.Contents.{Contents, is_below_end, is_in_range, pairs_of_range}
use Rattle.bw_model.specs.Values.{ValueBytes}
use Rattle.bw_page.proofs.Truths.{holds, true_holds, holds_not, left_of, right_of}
use Rattle.bw_page.proofs.KeyLemmas.{below_back, below_self, upto_trans}
use Rattle.bw_delta.proofs.PairMaps.{sorted_in_range}
use Rattle.bw_level.specs.Slots.{Slot, PageState, Free, Gone, Live, slot_at, has_key}
use Rattle.bw_level.specs.Levels.{IsHome, row}
use Rattle.bw_level.specs.Scans.{Reaches, high_of}
use Rattle.bw_level.proofs.EndLemmas.{upto_end}
use Rattle.bw_scan.specs.Cursors.{Scanning}
use Rattle.bw_scan.proofs.BackLemmas.{below_low, both_tests, fewer, no_more}
use Rattle.bw_scan.proofs.GapLemmas.{not_true}
use Rattle.bw_look.proofs.RangeLemmas.{one_then_other, all_of_those, none_of_those, first_of_front}

different : true ≡ false → ⊥
different e = cc

-- what a scan has found when it has passed a leaf: the pairs below the leaf's end
pub record HasPassed (slots : List Slot) (all found : List (KeyBytes × ValueBytes)) (p : ℕ) : Type 0 where
  pub state : PageState
  pub is : slot_at slots p ≡ Live state
  pub so_far : found ≡ where_key key_cmp (is_below_end state.high) all

-- the rest of what a page's end parts
pub enough_read : (slots : List Slot) (all found : List (KeyBytes × ValueBytes)) (p most : ℕ) → HasPassed slots all found p → T (is_sorted key_cmp all) → most ≤ length found → take most found ≡ take most all
enough_read slots all found p most passed sorted enough =
    let high = passed.state.high in
    let back = where_key key_cmp (λ k. not (is_below_end high k)) all in
    first_of_front most found back all
    (ap (λ (l : List (KeyBytes × ValueBytes)). l ++ back) passed.so_far
    ∙ one_then_other (is_below_end high) (λ k. not (is_below_end high k)) (λ k. true) (λ k e. ap not e) (rises high) (λ k. either (is_below_end high k)) all sorted ∙ whole all)
    enough
  where
    either : (b : Bool) → true ≡ (b || not b)
    either true = refl
    either false = refl

    whole : (es : List (KeyBytes × ValueBytes)) → where_key key_cmp (λ k. true) es ≡ es
    whole [] = refl
    whole (e ∷ es) = ap (λ (l : List (KeyBytes × ValueBytes)). e ∷ l) (whole es)

    rises : (high : Option KeyBytes) (a b : KeyBytes) → not (is_below_end high a) ≡ true → is_lt (key_cmp a b) ≡ true → is_below_end high b ≡ false
    rises None a b past above = absurd (different (sym past))
    rises (Some to) a b past above = upto_trans to a b (holds_not _ (true_holds _ past)) (below_back a b above)

-- it ends at a leaf that reaches the end of the range
pub ends_scan : (slots : List Slot) (m : Contents ValueBytes) (from : KeyBytes) (to : Option KeyBytes) (p : ℕ) (found : List (KeyBytes × ValueBytes)) → HasPassed slots (pairs_of_range m from to) found p → Reaches (high_of (slot_at slots p)) to → found ≡ pairs_of_range m from to
ends_scan slots m from to p found passed reaches =
    passed.so_far
    ∙ all_of_those (is_below_end passed.state.high) (is_in_range from to)
    (λ k inside. holds _ (subst (λ (o : Slot). T (is_below_end (high_of o) k)) passed.is (reaches k (right_of _ _ (true_holds _ inside))))) (entries m)

-- a scan begins at its first key
pub begins_scan : (m : Contents ValueBytes) (from : KeyBytes) (to : Option KeyBytes) → Scanning (pairs_of_range m from to) [] from from
begins_scan m from to = record {
  begins = below_self from;
  so_far = sym (none_of_those (λ k. is_lt (key_cmp k from)) (is_in_range from to) (λ k inside. holds_not _ (left_of _ _ (true_holds _ inside))) (entries m));
}

-- with the pairs of the leaf where it is, what is below the leaf's end has been read
pub passes : (slots : List Slot) (levels : List (List ℕ)) (m : Contents ValueBytes) (from at : KeyBytes) (to : Option KeyBytes) (p : ℕ) (found new : List (KeyBytes × ValueBytes)) → IsHome slots levels at p → Scanning (pairs_of_range m from to) found from at →
    new ≡ found ++ where_key key_cmp (has_key (slot_at slots p)) (pairs_of_range m at to) → HasPassed slots (pairs_of_range m from to) new p
passes slots levels m from at to p found new home h more = record {
  state = s;
  is = home.reached.is;
  so_far =
      more ∙ ap (λ (l : List (KeyBytes × ValueBytes)). l ++ where_key key_cmp (has_key (slot_at slots p)) (pairs_of_range m at to)) h.so_far
      ∙ ap (λ (l : List (KeyBytes × ValueBytes)). where_key key_cmp (λ k. is_lt (key_cmp k at)) all ++ l) (on_page ∙ sym here)
      ∙ one_then_other (λ k. is_lt (key_cmp k at)) (is_in_range at s.high) (is_below_end s.high)
      (λ k below. ap (λ b. not b && is_below_end s.high k) below)
      (λ a b on above. upto_trans at a b (holds_not _ (left_of _ _ (true_holds _ on))) (below_back a b above))
      (λ k. whole k (is_lt (key_cmp k at)) refl) all (sorted_in_range from to (entries m) (entries_sorted m));
}
  where
    s : PageState
    s = home.reached.state

    all : List (KeyBytes × ValueBytes)
    all = pairs_of_range m from to

    there : KeyBytes → Bool
    there k = is_in_range at to k && is_below_end s.high k

    whole : (k : KeyBytes) (b : Bool) → is_lt (key_cmp k at) ≡ b → is_below_end s.high k ≡ (b || (not b && is_below_end s.high k))
    whole k true below = below_low s.high k at below home.ends_above
    whole k false upto = refl

    page_tests : (a e l h : Bool) → (a ≡ true → l ≡ false) → ((a && e) && h) ≡ ((a && e) && (not l && h))
    page_tests false e l h from_low = refl
    page_tests true false l h from_low = refl
    page_tests true true false h from_low = refl
    page_tests true true true h from_low = absurd (different (from_low refl))

    range_tests : (a e f h : Bool) → (a ≡ true → f ≡ true) → ((a && e) && h) ≡ ((f && e) && (a && h))
    range_tests false e false h from_on = refl
    range_tests false false true h from_on = refl
    range_tests false true true h from_on = refl
    range_tests true e true h from_on = refl
    range_tests true e false h from_on = absurd (different (sym (from_on refl)))

    on_page : where_key key_cmp (has_key (slot_at slots p)) (pairs_of_range m at to) ≡ where_key key_cmp there (entries m)
    on_page =
        both_tests (has_key (slot_at slots p)) (is_in_range at to) there
        (λ k. page_tests (not (is_lt (key_cmp k at))) (is_below_end to k) (is_lt (key_cmp k s.low)) (is_below_end s.high k) (λ above. upto_trans s.low at k (holds_not _ home.reached.from_low) (not_true _ above))
        ∙ ap (λ (o : Slot). is_in_range at to k && has_key o k) (sym home.reached.is)) (entries m)

    here : where_key key_cmp (is_in_range at s.high) all ≡ where_key key_cmp there (entries m)
    here =
        both_tests (is_in_range at s.high) (is_in_range from to) there
        (λ k. range_tests (not (is_lt (key_cmp k at))) (is_below_end to k) (not (is_lt (key_cmp k from))) (is_below_end s.high k) (λ above. ap not (upto_trans from at k h.begins (not_true _ above)))) (entries m)

-- a page ends behind a key
abbrev pub ends_behind : KeyBytes → Slot → Bool
ends_behind at (Live s) = is_below_end s.high at
ends_behind at (Gone l) = false
ends_behind at Free = false

-- how many leaves do
pub leaves_behind : List Slot → List (List ℕ) → KeyBytes → ℕ
leaves_behind slots levels at = length (filter (λ p. ends_behind at (slot_at slots p)) (row levels 0))

-- fewer do behind the end of the leaf
pub fewer_behind : (slots : List Slot) (levels : List (List ℕ)) (at end : KeyBytes) (p : ℕ) → IsHome slots levels at p → high_of (slot_at slots p) ≡ Some end → leaves_behind slots levels end < leaves_behind slots levels at
unfolding leaves_behind
fewer_behind slots levels at end p home ends =
    fewer (λ q. ends_behind end (slot_at slots q)) (λ q. ends_behind at (slot_at slots q)) (λ q. passes_both (slot_at slots q)) (row levels 0) p home.reached.in_level
    (ap (ends_behind end) home.reached.is ∙ ap (λ (o : Option KeyBytes). is_below_end o end) high ∙ below_self end)
    (ap (ends_behind at) home.reached.is ∙ holds _ home.ends_above)
  where
    high : home.reached.state.high ≡ Some end
    high = sym (ap high_of home.reached.is) ∙ ends

    lower : is_lt (key_cmp at end) ≡ true
    lower = holds _ (subst (λ (o : Option KeyBytes). T (is_below_end o at)) high home.ends_above)

    passes_both : (o : Slot) → ends_behind end o ≡ true → ends_behind at o ≡ true
    passes_both Free e = e
    passes_both (Gone l) e = e
    passes_both (Live s) e = below_low s.high at end lower (true_holds _ e)

-- and no more behind a later key
pub no_more_behind : (slots : List Slot) (levels : List (List ℕ)) (at later : KeyBytes) → is_lt (key_cmp later at) ≡ false → leaves_behind slots levels later ≤ leaves_behind slots levels at
unfolding leaves_behind
no_more_behind slots levels at later upto = no_more (λ q. ends_behind later (slot_at slots q)) (λ q. ends_behind at (slot_at slots q)) (λ q. passes_both (slot_at slots q)) (row levels 0)
  where
    passes_both : (o : Slot) → ends_behind later o ≡ true → ends_behind at o ≡ true
    passes_both Free e = e
    passes_both (Gone l) e = e
    passes_both (Live s) e = holds _ (upto_end s.high at later upto (true_holds _ e))
