-- Sorted pairs, merged with writes that are sorted by key, one key further.
use Rattle.std.proofs.Common.{◌≡◌, ℕ, ◌+◌, ◌<◌, ◌==◌, get_or, Bool, true, false, cond, not, T, List, [], ◌∷◌, ◌++◌, take, drop, length, Option, Some, None, refl, sym, ap, ◌∙◌, subst, append_assoc, add-one, arith, Ordering, Less, Equal, Greater}
use Rattle.std.proofs.lemmas.Bool.Decides.{nat_tests}
use Rattle.std.proofs.lemmas.List.{take-append-drop}
use Rattle.std.specs.Ordering.{is_eq, is_lt}
use Rattle.std.specs.FinMap.{find, is_sorted}
use Rattle.std.specs.FinMap.Entries.{below_all}
use Rattle.bw_key.specs.Order.{KeyBytes, key_cmp, key_eq, key_ties}
use Rattle.bw_model.specs.Actions.{effect}
use Rattle.bw_model.specs.Values.{Pair, ValueBytes}
use Rattle.bw_model.specs.Sorted.{place_of}
use Rattle.bw_page.proofs.KeyLemmas.{below_trans, below_upto, cmp_self, neither_below}
use Rattle.bw_page.proofs.Search.{same_keys}
use Rattle.bw_page.proofs.Truths.{both_of, holds, left_of, right_of, true_holds}
use Rattle.bw_delta.specs.Batches.{writes_to}
use Rattle.bw_delta.specs.Merging.{after_writes, merged_value, with_value, AreBehind, AreBelow, AreFrom, ArePast, IsMerging, AreCutAt}
use Rattle.bw_delta.specs.Writes.{WriteView}

different : true ≡ false → ⊥
different e = cc

-- a key that is below another isn't the other
pub less_apart : (a b : KeyBytes) → is_lt (key_cmp a b) ≡ true → key_eq a b ≡ false
less_apart a b h = key_ties a b ∙ by (key_cmp a b) h
  where
    by : (r : Ordering) → is_lt r ≡ true → is_eq r ≡ false
    by Less e = refl
    by Equal e = cc
    by Greater e = cc

self_same : (k : KeyBytes) → key_eq k k ≡ true
self_same k = key_ties k k ∙ ap is_eq (cmp_self k)

-- of two keys that differ one is above the other
above_it : (a b : KeyBytes) → is_lt (key_cmp a b) ≡ false → key_eq a b ≡ false → is_lt (key_cmp b a) ≡ true
above_it a b upto apart = elim (is_lt (key_cmp b a)) as (λ t. is_lt (key_cmp b a) ≡ t → t ≡ true) [
  | true ↦ λ e. refl
  | false ↦ λ e. absurd (different (sym (self_same a) ∙ ap (key_eq a) (neither_below a b upto e) ∙ apart))
] refl

-- a key below another is below all that the other is below
below_more : {V : Type 0} (x k : KeyBytes) (es : List (KeyBytes × V)) → is_lt (key_cmp x k) ≡ true → T (below_all key_cmp k es) → T (below_all key_cmp x es)
below_more x k [] lt h = tt
below_more x k (e ∷ es) lt h =
    both_of _ _ (true_holds _ (below_trans x k e.0 lt (holds _ (left_of _ _ h)))) (below_more x k es lt (right_of _ _ h))

-- a key above another is above all that are below the other
pub above_more : (k m : KeyBytes) (es : List Pair) → is_lt (key_cmp k m) ≡ true → AreBelow k es → AreBelow m es
above_more k m [] lt h = tt
above_more k m (e ∷ es) lt h =
    both_of _ _ (true_holds _ (below_trans e.0 k m (holds _ (left_of _ _ h)) lt)) (above_more k m es lt (right_of _ _ h))

pub below_both : (k : KeyBytes) (xs ys : List Pair) → AreBelow k xs → AreBelow k ys → AreBelow k (xs ++ ys)
below_both k [] ys h i = i
below_both k (x ∷ xs) ys h i = both_of _ _ (left_of _ _ h) (below_both k xs ys (right_of _ _ h) i)

-- no pair behind a key is at it
find_behind : {V : Type 0} (k : KeyBytes) (es : List (KeyBytes × V)) → T (below_all key_cmp k es) → find key_cmp k es ≡ None
find_behind k [] h = refl
find_behind k (e ∷ es) h =
    ap (λ b. cond b (Some e.1) (find key_cmp k es)) (sym (key_ties k e.0) ∙ less_apart k e.0 (holds _ (left_of _ _ h)))
    ∙ find_behind k es (right_of _ _ h)

-- the value at a key between those below it and those behind it
pub find_parted : {V : Type 0} (q k : KeyBytes) (v : Option V) (xs ys : List (KeyBytes × V)) → AreBelow k xs → T (below_all key_cmp k ys) →
    find key_cmp q (xs ++ with_value k v ys) ≡ cond (key_eq q k) v (find key_cmp q (xs ++ ys))
find_parted q k None [] ys below above = elim (key_eq q k) as (λ t. key_eq q k ≡ t → find key_cmp q ys ≡ cond t None (find key_cmp q ys)) [
  | true ↦ λ e. ap (λ (x : KeyBytes). find key_cmp x ys) (same_keys q k e) ∙ find_behind k ys above
  | false ↦ λ e. refl
] refl
find_parted q k (Some w) [] ys below above = ap (λ t. cond t (Some w) (find key_cmp q ys)) (sym (key_ties q k))
find_parted q k v (x ∷ xs) ys below above = elim (key_eq q x.0) as (λ t. key_eq q x.0 ≡ t →
    cond (is_eq (key_cmp q x.0)) (Some x.1) (find key_cmp q (xs ++ with_value k v ys)) ≡ cond (key_eq q k) v (cond (is_eq (key_cmp q x.0)) (Some x.1) (find key_cmp q (xs ++ ys)))) [
      | true ↦ λ e.
          let there : is_eq (key_cmp q x.0) ≡ true = sym (key_ties q x.0) ∙ e in
          let other : key_eq q k ≡ false = ap (λ (y : KeyBytes). key_eq y k) (same_keys q x.0 e) ∙ less_apart x.0 k (holds _ (left_of _ _ below)) in
          ap (λ t. cond t (Some x.1) (find key_cmp q (xs ++ with_value k v ys))) there
          ∙ sym (ap (λ t. cond t v (cond (is_eq (key_cmp q x.0)) (Some x.1) (find key_cmp q (xs ++ ys)))) other ∙ ap (λ t. cond t (Some x.1) (find key_cmp q (xs ++ ys))) there)
      | false ↦ λ e.
          let passed : is_eq (key_cmp q x.0) ≡ false = sym (key_ties q x.0) ∙ e in
          ap (λ t. cond t (Some x.1) (find key_cmp q (xs ++ with_value k v ys))) passed
          ∙ find_parted q k v xs ys (right_of _ _ below) above
          ∙ sym (ap (λ t. cond (key_eq q k) v (cond t (Some x.1) (find key_cmp q (xs ++ ys)))) passed)
    ] refl

-- the rest of a sorted list is sorted
pub sorted_rest : {V : Type 0} (xs ys : List (KeyBytes × V)) → T (is_sorted key_cmp (xs ++ ys)) → T (is_sorted key_cmp ys)
sorted_rest [] ys h = h
sorted_rest (x ∷ xs) ys h = sorted_rest xs ys (right_of _ _ h)

-- a key below another is below all that stand from the other on
pub below_with : {V : Type 0} (x k : KeyBytes) (v : Option V) (ys : List (KeyBytes × V)) → is_lt (key_cmp x k) ≡ true → T (below_all key_cmp k ys) → T (below_all key_cmp x (with_value k v ys))
below_with x k None ys lt above = below_more x k ys lt above
below_with x k (Some u) ys lt above = both_of _ _ (true_holds _ lt) (below_more x k ys lt above)

-- with another value at the key, or none, it is sorted too
pub sorted_with : (k : KeyBytes) (v w : Option ValueBytes) (xs ys : List Pair) → AreBelow k xs → T (below_all key_cmp k ys) →
    T (is_sorted key_cmp (xs ++ with_value k v ys)) → T (is_sorted key_cmp (xs ++ with_value k w ys))
sorted_with k v w [] ys below above h = put w (bare v h)
  where
    bare : (v : Option ValueBytes) → T (is_sorted key_cmp (with_value k v ys)) → T (is_sorted key_cmp ys)
    bare None h = h
    bare (Some u) h = right_of _ _ h

    put : (w : Option ValueBytes) → T (is_sorted key_cmp ys) → T (is_sorted key_cmp (with_value k w ys))
    put None h = h
    put (Some u) h = both_of _ _ above h
sorted_with k v w (x ∷ xs) ys below above h =
    both_of _ _ (first_below xs (left_of _ _ h)) (sorted_with k v w xs ys (right_of _ _ below) above (right_of _ _ h))
  where
    lower : is_lt (key_cmp x.0 k) ≡ true
    lower = holds _ (left_of _ _ below)

    first_below : (xs : List Pair) → T (below_all key_cmp x.0 (xs ++ with_value k v ys)) → T (below_all key_cmp x.0 (xs ++ with_value k w ys))
    first_below [] h = below_with x.0 k w ys lower above
    first_below (y ∷ xs) h = both_of _ _ (left_of _ _ h) (first_below xs (right_of _ _ h))

-- writes from a key on have none at a lower key
pub none_from : (k low : KeyBytes) (ws : List WriteView) → is_lt (key_cmp k low) ≡ true → AreFrom low ws → writes_to k ws ≡ []
none_from k low [] lt from = refl
none_from k low (w ∷ ws) lt from =
    let above : is_lt (key_cmp k w.key) ≡ true = below_upto k low w.key lt from.0 in
    ap (λ b. cond b (w ∷ writes_to k ws) (writes_to k ws)) (less_apart k w.key above) ∙ none_from k w.key ws above from.1

-- and those behind a key have none at it
pub none_behind : (k : KeyBytes) (ws : List WriteView) → AreBehind k ws → writes_to k ws ≡ []
none_behind k [] behind = refl
none_behind k (w ∷ ws) behind =
    ap (λ b. cond b (w ∷ writes_to k ws) (writes_to k ws)) (less_apart k w.key behind.0) ∙ none_from k w.key ws behind.0 behind.1

-- the list and what is left, once the values of a key were put
pub one_key : (k : KeyBytes) (v w : Option ValueBytes) (xs ys : List Pair) (ws later : List WriteView) → AreBelow k xs → T (below_all key_cmp k ys) →
    w ≡ after_writes v (writes_to k ws) → ((q : KeyBytes) → key_eq q k ≡ false → writes_to q later ≡ writes_to q ws) → AreBehind k later →
    (q : KeyBytes) → merged_value (xs ++ with_value k w ys) later q ≡ merged_value (xs ++ with_value k v ys) ws q
one_key k v w xs ys ws later below above left others behind q =
    ap (λ o. after_writes o (writes_to q later)) (find_parted q k w xs ys below above)
    ∙ at (key_eq q k) refl
    ∙ sym (ap (λ o. after_writes o (writes_to q ws)) (find_parted q k v xs ys below above))
  where
    at : (t : Bool) → key_eq q k ≡ t →
        after_writes (cond (key_eq q k) w (find key_cmp q (xs ++ ys))) (writes_to q later) ≡ after_writes (cond (key_eq q k) v (find key_cmp q (xs ++ ys))) (writes_to q ws)
    at true e =
        ap (λ b. after_writes (cond b w (find key_cmp q (xs ++ ys))) (writes_to q later)) e
        ∙ ap (λ (x : KeyBytes). after_writes w (writes_to x later)) (same_keys q k e)
        ∙ ap (after_writes w) (none_behind k later behind)
        ∙ left
        ∙ sym (ap (λ (x : KeyBytes). after_writes v (writes_to x ws)) (same_keys q k e))
        ∙ sym (ap (λ b. after_writes (cond b v (find key_cmp q (xs ++ ys))) (writes_to q ws)) e)
    at false e =
        ap (λ b. after_writes (cond b w (find key_cmp q (xs ++ ys))) (writes_to q later)) e
        ∙ ap (after_writes (find key_cmp q (xs ++ ys))) (others q e)
        ∙ sym (ap (λ b. after_writes (cond b v (find key_cmp q (xs ++ ys))) (writes_to q ws)) e)

pub value_then : (k : KeyBytes) (v : Option ValueBytes) (ys : List Pair) → with_value k v [] ++ ys ≡ with_value k v ys
value_then k None ys = refl
value_then k (Some w) ys = refl

-- what is in the list, and what is left of the pairs
new_whole : (old new before behind : List Pair) (k : KeyBytes) (w : Option ValueBytes) → new ≡ old ++ before ++ with_value k w [] →
    new ++ behind ≡ (old ++ before) ++ with_value k w behind
new_whole old new before behind k w is =
    ap (λ (l : List Pair). l ++ behind) is ∙ append_assoc (old ++ before) (with_value k w []) behind ∙ ap (λ (l : List Pair). (old ++ before) ++ l) (value_then k w behind)

old_whole : (old pairs before behind : List Pair) (k : KeyBytes) (v : Option ValueBytes) → pairs ≡ before ++ with_value k v behind →
    old ++ pairs ≡ (old ++ before) ++ with_value k v behind
old_whole old pairs before behind k v is =
    ap (λ (l : List Pair). old ++ l) is ∙ sym (append_assoc old before (with_value k v behind))

module _ (old new pairs before behind : List Pair) (first : WriteView) (others later : List WriteView) (v w : Option ValueBytes) where
  pub still_merging : IsMerging old pairs (first ∷ others) → AreCutAt pairs first.key before v behind → new ≡ old ++ before ++ with_value first.key w [] → AreBehind first.key later →
      IsMerging new behind later
  still_merging so cut is after = record {
    sorted = subst (λ (l : List Pair). T (is_sorted key_cmp l)) (sym (new_whole old new before behind first.key w is))
        (sorted_with first.key v w (old ++ before) behind lower cut.above
        (subst (λ (l : List Pair). T (is_sorted key_cmp l)) (old_whole old pairs before behind first.key v cut.whole) so.sorted));
    past = subst (λ (l : List Pair). ArePast l later) (sym is) (over later after);
  }
    where
      lower : AreBelow first.key (old ++ before)
      lower = below_both first.key old before so.past.0 cut.below

      at : (m : KeyBytes) (w : Option ValueBytes) → is_lt (key_cmp first.key m) ≡ true → AreBelow m (with_value first.key w [])
      at m None lt = tt
      at m (Some u) lt = both_of _ _ (true_holds _ lt) tt

      over : (later : List WriteView) → AreBehind first.key later → ArePast (old ++ before ++ with_value first.key w []) later
      over [] after = tt
      over (x ∷ xs) after = (below_both x.key (old ++ before) (with_value first.key w []) (above_more first.key x.key (old ++ before) after.0 lower) (at x.key w after.0), after.1)

  pub same_values : IsMerging old pairs (first ∷ others) → AreCutAt pairs first.key before v behind → new ≡ old ++ before ++ with_value first.key w [] → AreBehind first.key later →
      w ≡ after_writes (effect first.action v) (writes_to first.key others) → ((q : KeyBytes) → key_eq q first.key ≡ false → writes_to q later ≡ writes_to q others) →
      (q : KeyBytes) → merged_value (new ++ behind) later q ≡ merged_value (old ++ pairs) (first ∷ others) q
  same_values so cut is after left same q =
      ap (λ (l : List Pair). merged_value l later q) (new_whole old new before behind first.key w is)
      ∙ one_key first.key v w (old ++ before) behind (first ∷ others) later (below_both first.key old before so.past.0 cut.below) cut.above
      (left ∙ ap (after_writes v) (sym (ap (λ b. cond b (first ∷ writes_to first.key others) (writes_to first.key others)) (self_same first.key))))
      (λ q e. same q e ∙ sym (ap (λ b. cond b (first ∷ writes_to q others) (writes_to q others)) e))
      after q
      ∙ sym (ap (λ (l : List Pair). merged_value l (first ∷ others) q) (old_whole old pairs before behind first.key v cut.whole))

-- Of all writes, those of rest are still to have their effects on the value at a key; those in front of them are of the key.
pub record ArePassing (key : KeyBytes) (start : Option ValueBytes) (all rest : List WriteView) (value : Option ValueBytes) : Type 0 where
  pub left : after_writes value (writes_to key rest) ≡ after_writes start (writes_to key all)
  pub others : (q : KeyBytes) → key_eq q key ≡ false → writes_to q rest ≡ writes_to q all
  pub from : AreFrom key rest

module _ (key : KeyBytes) (start value : Option ValueBytes) (all : List WriteView) (w : WriteView) (ws : List WriteView) where
  pub passes_one : key_eq w.key key ≡ true → ArePassing key start all (w ∷ ws) value → ArePassing key start all ws (effect w.action value)
  passes_one at so = record {
    left = sym (ap (λ b. after_writes value (cond b (w ∷ writes_to key ws) (writes_to key ws))) (ap (key_eq key) (same_keys w.key key at) ∙ self_same key)) ∙ so.left;
    others = λ q e. sym (ap (λ b. cond b (w ∷ writes_to q ws) (writes_to q ws)) (ap (key_eq q) (same_keys w.key key at) ∙ e)) ∙ so.others q e;
    from = subst (λ (k : KeyBytes). AreFrom k ws) (same_keys w.key key at) so.from.1;
  }

  -- a write to another key is behind the key
  pub stops_behind : key_eq w.key key ≡ false → ArePassing key start all (w ∷ ws) value → AreBehind key (w ∷ ws)
  stops_behind other so = (above_it w.key key so.from.0 other, so.from.1)

  pub stops_with : key_eq w.key key ≡ false → ArePassing key start all (w ∷ ws) value → value ≡ after_writes start (writes_to key all)
  stops_with other so = sym (ap (after_writes value) (none_behind key (w ∷ ws) (stops_behind other so))) ∙ so.left

-- the pairs below a key are those before its place
below_place : (key : KeyBytes) (es : List Pair) → AreBelow key (take (place_of key es) es)
below_place key [] = tt
below_place key (e ∷ es) = elim (is_lt (key_cmp e.0 key)) as (λ b. is_lt (key_cmp e.0 key) ≡ b → AreBelow key (take (cond b (place_of key es + 1) 0) (e ∷ es))) [
  | true ↦ λ b. subst (λ (n : ℕ). AreBelow key (take n (e ∷ es))) (sym (add-one (place_of key es))) (both_of _ _ (true_holds _ b) (below_place key es))
  | false ↦ λ b. tt
] refl

-- and the first one behind isn't below it
place_first : (key : KeyBytes) (es : List Pair) (e : Pair) (fs : List Pair) → drop (place_of key es) es ≡ e ∷ fs → is_lt (key_cmp e.0 key) ≡ false
place_first key [] e fs is = cc
place_first key (x ∷ es) e fs is = elim (is_lt (key_cmp x.0 key)) as (λ b. is_lt (key_cmp x.0 key) ≡ b → drop (cond b (place_of key es + 1) 0) (x ∷ es) ≡ e ∷ fs → is_lt (key_cmp e.0 key) ≡ false) [
  | true ↦ λ b is. place_first key es e fs (sym (ap (λ (n : ℕ). drop n (x ∷ es)) (add-one (place_of key es))) ∙ is)
  | false ↦ λ b is. sym (ap (λ (y : Pair). is_lt (key_cmp y.0 key)) (first x e es fs is)) ∙ b
] refl is
  where
    first : (x e : Pair) (es fs : List Pair) → x ∷ es ≡ e ∷ fs → x ≡ e
    first x e es fs is = cc

module _ (key : KeyBytes) (es : List Pair) (n : ℕ) where
  cut_below : n ≡ place_of key es → AreBelow key (take n es)
  cut_below at = subst (λ (m : ℕ). AreBelow key (take m es)) (sym at) (below_place key es)

  -- sorted pairs, cut at the place of a key: where there is none behind
  pub cut_none : n ≡ place_of key es → drop n es ≡ [] → AreCutAt es key (take n es) None (drop n es)
  cut_none at none = record {
    whole = sym (take-append-drop n es);
    below = cut_below at;
    above = subst (λ (l : List Pair). T (below_all key_cmp key l)) (sym none) tt;
  }

  module _ (e : Pair) (fs : List Pair) where
    rest_sorted : T (is_sorted key_cmp es) → drop n es ≡ e ∷ fs → T (is_sorted key_cmp (e ∷ fs))
    rest_sorted sorted is = subst (λ (l : List Pair). T (is_sorted key_cmp l)) is (sorted_rest (take n es) (drop n es) (subst (λ (l : List Pair). T (is_sorted key_cmp l)) (sym (take-append-drop n es)) sorted))

    -- where the first behind is at the key
    pub cut_found : n ≡ place_of key es → T (is_sorted key_cmp es) → drop n es ≡ e ∷ fs → key_eq e.0 key ≡ true → AreCutAt es key (take n es) (Some e.1) fs
    cut_found at sorted is same = record {
      whole = sym (take-append-drop n es) ∙ ap (λ (l : List Pair). take n es ++ l) (is ∙ ap (λ (k : KeyBytes). (k, e.1) ∷ fs) (same_keys e.0 key same));
      below = cut_below at;
      above = subst (λ (k : KeyBytes). T (below_all key_cmp k fs)) (same_keys e.0 key same) (left_of _ _ (rest_sorted sorted is));
    }

    -- and where it isn't
    pub cut_other : n ≡ place_of key es → T (is_sorted key_cmp es) → drop n es ≡ e ∷ fs → key_eq e.0 key ≡ false → AreCutAt es key (take n es) None (drop n es)
    cut_other at sorted is other = record {
      whole = sym (take-append-drop n es);
      below = cut_below at;
      above = subst (λ (l : List Pair). T (below_all key_cmp key l)) (sym is) (both_of _ _ (true_holds _ over) (below_more key e.0 fs over (left_of _ _ (rest_sorted sorted is))));
    }
      where
        over : is_lt (key_cmp key e.0) ≡ true
        over = above_it e.0 key (place_first key es e fs (ap (λ (m : ℕ). drop m es) (sym at) ∙ is)) other

pub no_length : (es : List Pair) → length es ≡ 0 → es ≡ []
no_length [] none = refl
no_length (e ∷ es) none = absurd (omega (arith, none))

pub turned : (a b : Bool) → not a ≡ b → a ≡ not b
turned true b e = ap not e
turned false b e = ap not e

-- pairs that aren't none are the first and those behind it
pub first_of_rest : (rest : List Pair) (d : Pair) → 0 < length rest → rest ≡ get_or rest 0 d ∷ drop 1 rest
first_of_rest [] d some = absurd (omega (arith, some))
first_of_rest (pair ∷ rest) d some = refl

pub none_left : (rest : List Pair) (r : Bool) → r ≡ (length rest == 0) → r ≡ true → rest ≡ []
none_left rest r is none = no_length rest (grind (arith, nat_tests, is, none))

pub some_left : (rest : List Pair) (r : Bool) → r ≡ (length rest == 0) → r ≡ false → 0 < length rest
some_left rest r is some = grind (arith, nat_tests, is, some)
