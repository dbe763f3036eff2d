-- Entries put among others.
use Rattle.std.proofs.Common.{◌≡◌, ℕ, zero, suc, ◌+◌, ◌-◌, ◌<◌, ◌≤◌, true, false, cond, T, List, [], ◌∷◌, ◌++◌, length, get_or, take, drop, slice_range, Option, refl, sym, ap, ◌∙◌, subst, append_assoc, add-one, arith, length-drop, Ordering}
use Rattle.std.specs.List.{list_all}
use Rattle.std.specs.Ordering.{is_lt, ordering_reverse}
use Rattle.std.specs.FinMap.{is_sorted, put}
use Rattle.std.specs.FinMap.Entries.{by_order}
use Rattle.std.specs.declared.cmp.Ordering.TheVariants.{Less, Equal, Greater}
use Rattle.bw_key.specs.Order.{KeyBytes, key_cmp, key_cmp_total}
use Rattle.bw_model.specs.Contents.{is_pair_in_range}
use Rattle.bw_model.specs.Sorted.{place_of}
use Rattle.bw_page.specs.Inners.{IsInner}
use Rattle.bw_page.specs.MergedEntries.{AreBefore, HasAdded, put_all}
use Rattle.bw_page.proofs.Cuts.{sorted_first}
use Rattle.bw_page.proofs.Entries.{put_inner_page, sorted_drop}
use Rattle.bw_page.proofs.KeyLemmas.{below_trans}
use Rattle.bw_page.proofs.Search.{below_first}
use Rattle.bw_page.proofs.Truths.{both_of, holds, left_of, right_of, true_holds}

above : (k x : KeyBytes) → is_lt (key_cmp x k) ≡ true → key_cmp k x ≡ Greater
above k x less = key_cmp_total.antisymm k x ∙ ap ordering_reverse (is_less _ less)
  where
    is_less : (o : Ordering) → is_lt o ≡ true → o ≡ Less
    is_less Less e = refl
    is_less Equal e = cc
    is_less Greater e = cc

module _ {V : Type 0} where
  -- one entry more
  more_put : (es : List (KeyBytes × V)) (e : KeyBytes × V) (cs : List (KeyBytes × V)) → put_all (es ++ e ∷ []) cs ≡ put key_cmp e.0 e.1 (put_all es cs)
  more_put [] e cs = refl
  more_put (x ∷ es) e cs = more_put es e (put key_cmp x.0 x.1 cs)

  -- an entry goes behind what comes before it
  put_behind : (k : KeyBytes) (v : V) (xs ys : List (KeyBytes × V)) → AreBefore k xs → put key_cmp k v (xs ++ ys) ≡ xs ++ put key_cmp k v ys
  put_behind k v [] ys before = refl
  put_behind k v (x ∷ xs) ys before =
      let rest = xs ++ ys in
      ap (λ o. by_order o ((k, v) ∷ x ∷ rest) ((x.0, v) ∷ rest) (x ∷ put key_cmp k v rest)) (above k x.0 (holds _ (left_of _ _ before)))
      ∙ ap (λ (l : List (KeyBytes × V)). x ∷ l) (put_behind k v xs ys (right_of _ _ before))

  before_both : (key : KeyBytes) (xs ys : List (KeyBytes × V)) → AreBefore key xs → AreBefore key ys → AreBefore key (xs ++ ys)
  before_both key [] ys p q = q
  before_both key (x ∷ xs) ys p q = both_of _ _ (left_of _ _ p) (before_both key xs ys (right_of _ _ p) q)

  before_first : (key : KeyBytes) (xs ys : List (KeyBytes × V)) → AreBefore key (xs ++ ys) → AreBefore key xs
  before_first key [] ys p = tt
  before_first key (x ∷ xs) ys p = both_of _ _ (left_of _ _ p) (before_first key xs ys (right_of _ _ p))

  before_last : (key : KeyBytes) (xs ys : List (KeyBytes × V)) → AreBefore key (xs ++ ys) → AreBefore key ys
  before_last key [] ys p = p
  before_last key (x ∷ xs) ys p = before_last key xs ys (right_of _ _ p)

  -- of entries in order the first ones come before a later one
  pub before_there : (es : List (KeyBytes × V)) (n : ℕ) (e : KeyBytes × V) → T (is_sorted key_cmp es) → n < length es → e ≡ get_or es n e → AreBefore e.0 (take n es)
  before_there [] n e sorted lt is = absurd (omega arith)
  before_there (x ∷ es) zero e sorted lt is = tt
  before_there (x ∷ es) (suc n) e sorted lt is =
      both_of _ _
      (true_holds _ (below_first x.0 es n e (left_of _ _ sorted) (omega arith) is))
      (before_there es n e (right_of _ _ sorted) (omega arith) is)

  -- the entries before a key's place come before each key above it
  pub before_place : (q key : KeyBytes) (es : List (KeyBytes × V)) → is_lt (key_cmp q key) ≡ true → AreBefore key (take (place_of q es) es)
  before_place q key [] over = tt
  before_place q key (e ∷ es) over = elim (is_lt (key_cmp e.0 q)) as (λ b. is_lt (key_cmp e.0 q) ≡ b → AreBefore key (take (cond b (place_of q es + 1) 0) (e ∷ es))) [
    | true ↦ λ less.
        subst (λ n. AreBefore key (take n (e ∷ es))) (sym (add-one (place_of q es)))
        (both_of _ _ (true_holds _ (below_trans e.0 q key less over)) (before_place q key es over))
    | false ↦ λ not. tt
  ] refl

  take_all : (n : ℕ) (xs : List (KeyBytes × V)) → n ≡ length xs → take n xs ≡ xs
  take_all zero [] size = refl
  take_all (suc n) [] size = refl
  take_all zero (x ∷ xs) size = absurd (omega (arith, size))
  take_all (suc n) (x ∷ xs) size = ap (λ (l : List (KeyBytes × V)). x ∷ l) (take_all n xs (omega (arith, size)))

  -- the entries from a place on
  pub rest_is : (n : ℕ) (cs : List (KeyBytes × V)) → take (length cs - n) (drop n cs) ≡ drop n cs
  rest_is n cs = take_all (length cs - n) (drop n cs) (sym (length-drop n cs))

  pub sorted_rest : (n : ℕ) (cs : List (KeyBytes × V)) → T (is_sorted key_cmp cs) → T (is_sorted key_cmp (take (length cs - n) (drop n cs)))
  sorted_rest n cs sorted = subst (λ (l : List (KeyBytes × V)). T (is_sorted key_cmp l)) (sym (rest_is n cs)) (sorted_drop n cs sorted)

  pub sorted_run : (i j : ℕ) (cs : List (KeyBytes × V)) → T (is_sorted key_cmp cs) → T (is_sorted key_cmp (slice_range cs i j))
  sorted_run i j cs sorted = sorted_first (j - i) (drop i cs) (sorted_drop i cs sorted)

  -- what was added: the entries before the entry's place, and the entry
  pub entry_added : (all some new entries : List (KeyBytes × V)) (passed n next : ℕ) (e : KeyBytes × V) → n ≡ place_of e.0 (drop passed entries) →
      ((value : V) → (take n (drop passed entries) ++ (e.0, value) ∷ []) ++ drop next entries ≡ put key_cmp e.0 value (drop passed entries)) →
      some ≡ all ++ take n (drop passed entries) → new ≡ some ++ e ∷ [] → HasAdded all new (drop passed entries) (drop next entries) e
  entry_added all some new entries passed n next e place puts copied pushed =
      let rest = drop passed entries in
      record {
        added = take n rest ++ e ∷ [];
        is = pushed ∙ ap (λ (l : List (KeyBytes × V)). l ++ e ∷ []) copied ∙ append_assoc all (take n rest) (e ∷ []);
        put = sym (puts e.1);
        before = λ key over.
            before_both key (take n rest) (e ∷ [])
            (subst (λ m. AreBefore key (take m rest)) (sym place) (before_place e.0 key rest over))
            (both_of _ _ (true_holds _ over) tt);
      }

  -- What was merged: the entries up to a place and the entries so far, which come before all that comes behind these.
  pub record HasMerged (yielded all entries : List (KeyBytes × V)) (passed : ℕ) : Type 0 where
    pub within : passed ≤ length entries
    pub is : all ++ drop passed entries ≡ put_all yielded entries
    pub before : (key : KeyBytes) → AreBefore key yielded → AreBefore key all

  pub merging_none : (all entries : List (KeyBytes × V)) → all ≡ [] → HasMerged [] all entries 0
  merging_none all entries none = record {
    within = omega arith;
    is = ap (λ (l : List (KeyBytes × V)). l ++ entries) none;
    before = λ key h. subst (AreBefore key) (sym none) tt;
  }

  pub merging_more : (yielded all all' entries : List (KeyBytes × V)) (passed next : ℕ) (e : KeyBytes × V) → AreBefore e.0 yielded → HasMerged yielded all entries passed → next ≤ length entries → HasAdded all all' (drop passed entries) (drop next entries) e → HasMerged (yielded ++ e ∷ []) all' entries next
  merging_more yielded all all' entries passed next e behind m within more = record {
    within = within;
    is =
        ap (λ (l : List (KeyBytes × V)). l ++ drop next entries) more.is
        ∙ append_assoc all more.added (drop next entries)
        ∙ ap (λ (l : List (KeyBytes × V)). all ++ l) (sym more.put)
        ∙ sym (put_behind e.0 e.1 all (drop passed entries) (m.before e.0 behind))
        ∙ ap (λ (l : List (KeyBytes × V)). put key_cmp e.0 e.1 l) m.is
        ∙ sym (more_put yielded e entries);
    before = λ key h. subst (AreBefore key) (sym more.is)
        (before_both key all more.added
        (m.before key (before_first key yielded (e ∷ []) h))
        (more.before key (holds _ (left_of _ _ (before_last key yielded (e ∷ []) h)))));
  }

-- an inner page with entries of its range is one
pub inner_with_all : (level : ℕ) (low : KeyBytes) (high : Option KeyBytes) (side : Option ℕ) (es cs : List (KeyBytes × ℕ)) → T (list_all (is_pair_in_range low high) es) → IsInner level low high side cs → IsInner level low high side (put_all es cs)
inner_with_all level low high side [] cs inside rules = rules
inner_with_all level low high side (e ∷ es) cs inside rules =
    inner_with_all level low high side es (put key_cmp e.0 e.1 cs) (right_of _ _ inside) (put_inner_page level low high side e.0 e.1 cs (left_of _ _ inside) rules)
