-- Sorted pairs with changes over them: looked up, of a range, and cut at a key that was changed.
use Rattle.std.proofs.Common.{◌≡◌, ℕ, zero, suc, ◌-◌, Bool, true, false, cond, not, T, List, [], ◌∷◌, ◌++◌, length, reverse, take, Option, Some, None, refl, sym, ap, ◌∙◌, subst, append_assoc, arith}
use Rattle.std.specs.Option.{is_some}
use Rattle.std.proofs.lemmas.List.{length-reverse, reverse-append}
use Rattle.std.specs.Prelude.{filter}
use Rattle.std.specs.Cmp.{alike_right, eq_by_cmp_equiv}
use Rattle.std.specs.List.{list_all}
use Rattle.std.specs.Ordering.{eq_by_cmp, is_eq, is_lt}
use Rattle.std.specs.FinMap.{find, is_sorted}
use Rattle.std.specs.FinMap.Entries.{below_all, find-put, find-where_key, is_sorted-put, is_sorted-where_key, same_entries}
use Rattle.bw_key.specs.Order.{KeyBytes, key_cmp, key_cmp_total, key_eq, key_ties}
use Rattle.bw_model.specs.Contents.{is_in_range, is_pair_in_range}
use Rattle.bw_model.specs.Values.{Pair, ValueBytes}
use Rattle.bw_page.proofs.KeyLemmas.{below_back, cmp_self, keys_tie}
use Rattle.bw_page.proofs.Search.{same_keys}
use Rattle.bw_page.proofs.Truths.{both_of, holds, left_of, right_of, true_holds}
use Rattle.bw_delta.specs.Merging.{with_value, AreBelow, AreCutAt}
use Rattle.bw_delta.specs.Present.{changed_pairs, with_change, Change}
use Rattle.bw_delta.proofs.PairMaps.{find_in_range, sorted_in_range}
use Rattle.bw_delta.proofs.Merges.{below_with, find_parted, sorted_rest, value_then}

-- the value at a key under changes: that of the change there, or else the one below
abbrev pub value_under : Option (Option ValueBytes) → Option ValueBytes → Option ValueBytes
value_under None value = value
value_under (Some changed) value = changed

turned : {A : Type 0} (b : Bool) (x y : A) → cond (not b) x y ≡ cond b y x
turned true x y = refl
turned false x y = refl

find_one : (change : Change) (pairs : List Pair) (q : KeyBytes) → find key_cmp q (with_change change pairs) ≡ cond (is_eq (key_cmp q change.0)) change.1 (find key_cmp q pairs)
find_one (k, Some v) pairs q = find-put key_cmp key_cmp_total q k v pairs
find_one (k, None) pairs q =
    find-where_key key_cmp (λ x. not (eq_by_cmp key_cmp k x)) q (λ x t. ap (λ r. not (is_eq r)) (sym (alike_right key_cmp_total q x k t))) pairs
    ∙ turned (eq_by_cmp key_cmp k q) _ _
    ∙ ap (λ b. cond b None (find key_cmp q pairs)) ((eq_by_cmp_equiv key_cmp_total).symm k q)

pub find_changed : (changes : List Change) (pairs : List Pair) (q : KeyBytes) → find key_cmp q (changed_pairs changes pairs) ≡ value_under (find key_cmp q changes) (find key_cmp q pairs)
find_changed [] pairs q = refl
find_changed (c ∷ cs) pairs q = find_one c (changed_pairs cs pairs) q ∙ by (is_eq (key_cmp q c.0)) (find_changed cs pairs q)
  where
    by : (b : Bool) → find key_cmp q (changed_pairs cs pairs) ≡ value_under (find key_cmp q cs) (find key_cmp q pairs) →
        cond b c.1 (find key_cmp q (changed_pairs cs pairs)) ≡ value_under (cond b (Some c.1) (find key_cmp q cs)) (find key_cmp q pairs)
    by true rest = refl
    by false rest = rest

pub none_there : {X : Type 0} (o : Option X) → is_some o ≡ false → o ≡ None
none_there None is = refl
none_there (Some x) is = cc

-- one more change, and one that is taken back at a key which the pairs don't have
module _ (old new : List Change) (pairs : List Pair) (key : KeyBytes) (value : Option ValueBytes) where
  pub put_change : ((q : KeyBytes) → find key_cmp q new ≡ cond (key_eq q key) (Some value) (find key_cmp q old)) →
      (q : KeyBytes) → find key_cmp q (changed_pairs new pairs) ≡ cond (key_eq q key) value (find key_cmp q (changed_pairs old pairs))
  put_change put q =
      find_changed new pairs q ∙ ap (λ o. value_under o (find key_cmp q pairs)) (put q) ∙ by (key_eq q key)
      ∙ sym (ap (cond (key_eq q key) value) (find_changed old pairs q))
    where
      by : (b : Bool) → value_under (cond b (Some value) (find key_cmp q old)) (find key_cmp q pairs) ≡ cond b value (value_under (find key_cmp q old) (find key_cmp q pairs))
      by true = refl
      by false = refl

  pub take_back : value ≡ None → find key_cmp key pairs ≡ None → ((q : KeyBytes) → find key_cmp q new ≡ cond (key_eq q key) None (find key_cmp q old)) →
      (q : KeyBytes) → find key_cmp q (changed_pairs new pairs) ≡ cond (key_eq q key) value (find key_cmp q (changed_pairs old pairs))
  take_back none bare taken q =
      find_changed new pairs q ∙ ap (λ o. value_under o (find key_cmp q pairs)) (taken q) ∙ by (key_eq q key) refl
      ∙ sym (ap (cond (key_eq q key) value) (find_changed old pairs q))
    where
      by : (b : Bool) → key_eq q key ≡ b → value_under (cond b None (find key_cmp q old)) (find key_cmp q pairs) ≡ cond b value (value_under (find key_cmp q old) (find key_cmp q pairs))
      by true is = ap (λ (k : KeyBytes). find key_cmp k pairs) (same_keys q key is) ∙ bare ∙ sym none
      by false is = refl

sorted_one : (change : Change) (pairs : List Pair) → T (is_sorted key_cmp pairs) → T (is_sorted key_cmp (with_change change pairs))
sorted_one (k, Some v) pairs h = is_sorted-put key_cmp key_cmp_total k v pairs h
sorted_one (k, None) pairs h = is_sorted-where_key key_cmp (λ q. not (eq_by_cmp key_cmp k q)) pairs h

pub sorted_changed : (changes : List Change) (pairs : List Pair) → T (is_sorted key_cmp pairs) → T (is_sorted key_cmp (changed_pairs changes pairs))
sorted_changed [] pairs h = h
sorted_changed (c ∷ cs) pairs h = sorted_one c (changed_pairs cs pairs) (sorted_changed cs pairs h)

-- the pairs of a range are those of the base there, with the changes there
range_changed : (low : KeyBytes) (high : Option KeyBytes) (changes : List Change) (pairs : List Pair) → T (is_sorted key_cmp pairs) →
    filter (is_pair_in_range low high) (changed_pairs changes pairs) ≡ changed_pairs (filter (is_pair_in_range low high) changes) (filter (is_pair_in_range low high) pairs)
range_changed low high changes pairs sorted =
    same_entries key_cmp key_cmp_total keys_tie _ _
    (sorted_in_range low high (changed_pairs changes pairs) (sorted_changed changes pairs sorted))
    (sorted_changed (filter (is_pair_in_range low high) changes) (filter (is_pair_in_range low high) pairs) (sorted_in_range low high pairs sorted))
    (λ q.
    find_in_range low high q (changed_pairs changes pairs)
    ∙ ap (λ o. cond (is_in_range low high q) o None) (find_changed changes pairs q)
    ∙ by (is_in_range low high q) (find key_cmp q changes) (find key_cmp q pairs)
    ∙ sym (ap (λ o. value_under o (cond (is_in_range low high q) (find key_cmp q pairs) None)) (find_in_range low high q changes))
    ∙ sym (ap (value_under (find key_cmp q (filter (is_pair_in_range low high) changes))) (find_in_range low high q pairs))
    ∙ sym (find_changed (filter (is_pair_in_range low high) changes) (filter (is_pair_in_range low high) pairs) q))
  where
    by : (b : Bool) (c : Option (Option ValueBytes)) (v : Option ValueBytes) → cond b (value_under c v) None ≡ value_under (cond b c None) (cond b v None)
    by true c v = refl
    by false c v = refl

-- what a read of a range has, from the pairs and the changes there
pub read_changed : (low : KeyBytes) (high : Option KeyBytes) (changes there : List Change) (base pairs : List Pair) → T (is_sorted key_cmp base) →
    there ≡ filter (is_pair_in_range low high) changes → pairs ≡ filter (is_pair_in_range low high) base → changed_pairs there pairs ≡ filter (is_pair_in_range low high) (changed_pairs changes base)
read_changed low high changes there base pairs sorted there_is pairs_is =
    ap (λ (l : List Change). changed_pairs l pairs) there_is
    ∙ ap (changed_pairs (filter (is_pair_in_range low high) changes)) pairs_is
    ∙ sym (range_changed low high changes base sorted)

module _ {V : Type 0} where
  -- where no key that fails a test is found, all pass it
  all_pass : (p : KeyBytes → Bool) (es : List (KeyBytes × V)) → ((q : KeyBytes) → p q ≡ false → find key_cmp q es ≡ None) → T (list_all (λ e. p e.0) es)
  all_pass p [] none = tt
  all_pass p (e ∷ es) none = both_of _ _ (here (p e.0) refl) (all_pass p es (λ q fails. rest (is_eq (key_cmp q e.0)) _ (none q fails)))
    where
      rest : (b : Bool) (o : Option V) → cond b (Some e.1) o ≡ None → o ≡ None
      rest true o is = cc
      rest false o is = is

      found : cond (is_eq (key_cmp e.0 e.0)) (Some e.1) (find key_cmp e.0 es) ≡ Some e.1
      found = ap (λ o. cond (is_eq o) (Some e.1) (find key_cmp e.0 es)) (cmp_self e.0)

      different : Some e.1 ≡ None → ⊥
      different is = cc

      here : (b : Bool) → p e.0 ≡ b → T (p e.0)
      here true is = true_holds _ is
      here false is = absurd (different (sym found ∙ none e.0 is))

  -- and a key that fails a test which all pass isn't found
  none_fails : (p : KeyBytes → Bool) (es : List (KeyBytes × V)) (q : KeyBytes) → T (list_all (λ e. p e.0) es) → p q ≡ false → find key_cmp q es ≡ None
  none_fails p [] q all fails = refl
  none_fails p (e ∷ es) q all fails =
      ap (λ b. cond b (Some e.1) (find key_cmp q es)) (sym (key_ties q e.0) ∙ other (key_eq q e.0) refl) ∙ none_fails p es q (right_of _ _ all) fails
    where
      different : true ≡ false → ⊥
      different is = cc

      other : (b : Bool) → key_eq q e.0 ≡ b → key_eq q e.0 ≡ false
      other true is = absurd (different (sym (holds _ (left_of _ _ all)) ∙ ap p (sym (same_keys q e.0 is)) ∙ fails))
      other false is = is

  -- a key that is below all
  below_passed : (k : KeyBytes) (es : List (KeyBytes × V)) → T (list_all (λ e. is_lt (key_cmp k e.0)) es) → T (below_all key_cmp k es)
  below_passed k [] h = tt
  below_passed k (e ∷ es) h = both_of _ _ (left_of _ _ h) (below_passed k es (right_of _ _ h))

  passed_below : (k : KeyBytes) (es : List (KeyBytes × V)) → T (below_all key_cmp k es) → T (list_all (λ e. is_lt (key_cmp k e.0)) es)
  passed_below k [] h = tt
  passed_below k (e ∷ es) h = both_of _ _ (left_of _ _ h) (passed_below k es (right_of _ _ h))

  -- a look-up in two lists, one of which doesn't have the key
  front_only : (q : KeyBytes) (xs ys : List (KeyBytes × V)) → find key_cmp q ys ≡ None → find key_cmp q (xs ++ ys) ≡ find key_cmp q xs
  front_only q [] ys none = none
  front_only q (x ∷ xs) ys none = ap (cond (is_eq (key_cmp q x.0)) (Some x.1)) (front_only q xs ys none)

  back_only : (q : KeyBytes) (xs ys : List (KeyBytes × V)) → find key_cmp q xs ≡ None → find key_cmp q (xs ++ ys) ≡ find key_cmp q ys
  back_only q [] ys none = refl
  back_only q (x ∷ xs) ys none = by (is_eq (key_cmp q x.0)) none (back_only q xs ys)
    where
      by : (b : Bool) → cond b (Some x.1) (find key_cmp q xs) ≡ None → (find key_cmp q xs ≡ None → find key_cmp q (xs ++ ys) ≡ find key_cmp q ys) →
          cond b (Some x.1) (find key_cmp q (xs ++ ys)) ≡ find key_cmp q ys
      by true is rest = cc
      by false is rest = rest is

  -- the front of a sorted list
  pub sorted_front : (xs ys : List (KeyBytes × V)) → T (is_sorted key_cmp (xs ++ ys)) → T (is_sorted key_cmp xs)
  sorted_front [] ys h = tt
  sorted_front (x ∷ xs) ys h = both_of _ _ (below_front xs (left_of _ _ h)) (sorted_front xs ys (right_of _ _ h))
    where
      below_front : (xs : List (KeyBytes × V)) → T (below_all key_cmp x.0 (xs ++ ys)) → T (below_all key_cmp x.0 xs)
      below_front [] h = tt
      below_front (y ∷ xs) h = both_of _ _ (left_of _ _ h) (below_front xs (right_of _ _ h))

  -- in a sorted list the keys before an element are below its key
  below_middle : (xs : List (KeyBytes × V)) (m : KeyBytes × V) (ys : List (KeyBytes × V)) → T (is_sorted key_cmp (xs ++ m ∷ ys)) → AreBelow m.0 xs
  below_middle [] m ys h = tt
  below_middle (x ∷ xs) m ys h = both_of _ _ (at xs (left_of _ _ h)) (below_middle xs m ys (right_of _ _ h))
    where
      at : (xs : List (KeyBytes × V)) → T (below_all key_cmp x.0 (xs ++ m ∷ ys)) → T (is_lt (key_cmp x.0 m.0))
      at [] h = left_of _ _ h
      at (y ∷ xs) h = at xs (right_of _ _ h)

  -- two sorted lists round a key
  sorted_round : (k : KeyBytes) (v : Option V) (xs ys : List (KeyBytes × V)) → AreBelow k xs → T (below_all key_cmp k ys) → T (is_sorted key_cmp xs) → T (is_sorted key_cmp ys) →
      T (is_sorted key_cmp (xs ++ with_value k v ys))
  sorted_round k None [] ys below above front back = back
  sorted_round k (Some u) [] ys below above front back = both_of _ _ above back
  sorted_round k v (x ∷ xs) ys below above front back = both_of _ _ (first xs (left_of _ _ front)) (sorted_round k v xs ys (right_of _ _ below) above (right_of _ _ front) back)
    where
      first : (xs : List (KeyBytes × V)) → T (below_all key_cmp x.0 xs) → T (below_all key_cmp x.0 (xs ++ with_value k v ys))
      first [] h = below_with x.0 k v ys (holds _ (left_of _ _ below)) above
      first (y ∷ xs) h = both_of _ _ (left_of _ _ h) (first xs (right_of _ _ h))

  bare : (k : KeyBytes) (v : Option V) (ys : List (KeyBytes × V)) → T (is_sorted key_cmp (with_value k v ys)) → T (is_sorted key_cmp ys)
  bare k None ys h = h
  bare k (Some u) ys h = right_of _ _ h

-- both parts of sorted pairs that are cut are sorted
module _ (k : KeyBytes) (old : Option ValueBytes) (pairs before behind : List Pair) (cut : AreCutAt pairs k before old behind) (sorted : T (is_sorted key_cmp pairs)) where
  whole_sorted : T (is_sorted key_cmp (before ++ with_value k old behind))
  whole_sorted = subst (λ (l : List Pair). T (is_sorted key_cmp l)) cut.whole sorted

  pub before_sorted : T (is_sorted key_cmp before)
  before_sorted = sorted_front before (with_value k old behind) whole_sorted

  pub behind_sorted : T (is_sorted key_cmp behind)
  behind_sorted = bare k old behind (sorted_rest before (with_value k old behind) whole_sorted)

  -- The changes at smaller keys are made in front of the key, and those at greater ones behind it.
  cut_changed : (v : Option ValueBytes) (lower upper : List Change) → T (is_sorted key_cmp (lower ++ (k, v) ∷ upper)) →
      changed_pairs (lower ++ (k, v) ∷ upper) pairs ≡ changed_pairs lower before ++ with_value k v (changed_pairs upper behind)
  cut_changed v lower upper rising = same_entries key_cmp key_cmp_total keys_tie _ _
      (sorted_changed (lower ++ (k, v) ∷ upper) pairs sorted)
      (sorted_round k v front back front_below back_above (sorted_changed lower before before_sorted) (sorted_changed upper behind behind_sorted))
      (λ q.
      find_changed (lower ++ (k, v) ∷ upper) pairs q
      ∙ ap (λ o. value_under o (find key_cmp q pairs)) (find_parted q k (Some v) lower upper lower_below upper_above)
      ∙ ap (value_under (cond (key_eq q k) (Some v) (find key_cmp q (lower ++ upper)))) (ap (find key_cmp q) cut.whole ∙ find_parted q k old before behind cut.below cut.above)
      ∙ by q (key_eq q k) refl
      ∙ sym (find_parted q k v front back front_below back_above))
    where
      front : List Pair
      front = changed_pairs lower before

      back : List Pair
      back = changed_pairs upper behind

      lower_below : AreBelow k lower
      lower_below = below_middle lower (k, v) upper rising

      upper_above : T (below_all key_cmp k upper)
      upper_above = left_of _ _ (sorted_rest lower ((k, v) ∷ upper) rising)

      -- what isn't below the key isn't in front
      none_front : (q : KeyBytes) → is_lt (key_cmp q k) ≡ false → (find key_cmp q lower ≡ None) × (find key_cmp q before ≡ None)
      none_front q not_below = (none_fails (λ x. is_lt (key_cmp x k)) lower q lower_below not_below, none_fails (λ x. is_lt (key_cmp x k)) before q cut.below not_below)

      none_back : (q : KeyBytes) → is_lt (key_cmp k q) ≡ false → (find key_cmp q upper ≡ None) × (find key_cmp q behind ≡ None)
      none_back q not_above = (none_fails (λ x. is_lt (key_cmp k x)) upper q (passed_below k upper upper_above) not_above, none_fails (λ x. is_lt (key_cmp k x)) behind q (passed_below k behind cut.above) not_above)

      unchanged : (changes : List Change) (base : List Pair) (q : KeyBytes) → (find key_cmp q changes ≡ None) × (find key_cmp q base ≡ None) → find key_cmp q (changed_pairs changes base) ≡ None
      unchanged changes base q none = find_changed changes base q ∙ ap (λ o. value_under o (find key_cmp q base)) none.0 ∙ none.1

      front_below : AreBelow k front
      front_below = all_pass (λ x. is_lt (key_cmp x k)) front (λ q fails. unchanged lower before q (none_front q fails))

      back_above : T (below_all key_cmp k back)
      back_above = below_passed k back (all_pass (λ x. is_lt (key_cmp k x)) back (λ q fails. unchanged upper behind q (none_back q fails)))

      beside : (q : KeyBytes) → key_eq q k ≡ false → (b : Bool) → is_lt (key_cmp q k) ≡ b → value_under (find key_cmp q (lower ++ upper)) (find key_cmp q (before ++ behind)) ≡ find key_cmp q (front ++ back)
      beside q other true below =
          let none = none_back q (below_back q k below) in
          ap (λ o. value_under o (find key_cmp q (before ++ behind))) (front_only q lower upper none.0)
          ∙ ap (value_under (find key_cmp q lower)) (front_only q before behind none.1)
          ∙ sym (find_changed lower before q)
          ∙ sym (front_only q front back (unchanged upper behind q none))
      beside q other false not_below =
          let none = none_front q not_below in
          ap (λ o. value_under o (find key_cmp q (before ++ behind))) (back_only q lower upper none.0)
          ∙ ap (value_under (find key_cmp q upper)) (back_only q before behind none.1)
          ∙ sym (find_changed upper behind q)
          ∙ sym (back_only q front back (unchanged lower before q none))

      by : (q : KeyBytes) (b : Bool) → key_eq q k ≡ b →
          value_under (cond (key_eq q k) (Some v) (find key_cmp q (lower ++ upper))) (cond (key_eq q k) old (find key_cmp q (before ++ behind))) ≡ cond (key_eq q k) v (find key_cmp q (front ++ back))
      by q true is =
          ap (λ b. value_under (cond b (Some v) (find key_cmp q (lower ++ upper))) (cond (key_eq q k) old (find key_cmp q (before ++ behind)))) is
          ∙ sym (ap (λ b. cond b v (find key_cmp q (front ++ back))) is)
      by q false is =
          ap (λ b. value_under (cond b (Some v) (find key_cmp q (lower ++ upper))) (cond b old (find key_cmp q (before ++ behind)))) is
          ∙ beside q is (is_lt (key_cmp q k)) refl
          ∙ sym (ap (λ b. cond b v (find key_cmp q (front ++ back))) is)

-- what is taken of a list is taken of its parts
take_parts : (xs ys : List Pair) (n : ℕ) → take n (xs ++ ys) ≡ take n xs ++ take (n - length xs) ys
take_parts [] ys zero = refl
take_parts [] ys (suc n) = ap (λ m. take m ys) (all n)
  where
    all : (n : ℕ) → suc n ≡ suc n - 0
    all n = omega arith
take_parts (x ∷ xs) ys zero = ap (λ m. take m ys) (none (length xs))
  where
    none : (n : ℕ) → 0 ≡ 0 - suc n
    none n = omega arith
take_parts (x ∷ xs) ys (suc n) = ap (λ (l : List Pair). x ∷ l) (take_parts xs ys n) ∙ ap (λ m. x ∷ (take n xs ++ take m ys)) (less n (length xs))
  where
    less : (n m : ℕ) → n - m ≡ suc n - suc m
    less n m = omega arith

-- three parts that are added one after another
added_parts : (read xs ys zs whole : List Pair) (left : ℕ) → read ++ take left (xs ++ (ys ++ zs)) ≡ whole →
    ((read ++ take left xs) ++ take (left - length xs) ys) ++ take ((left - length xs) - length ys) zs ≡ whole
added_parts read xs ys zs whole left is =
    append_assoc (read ++ take left xs) (take (left - length xs) ys) (take ((left - length xs) - length ys) zs)
    ∙ append_assoc read (take left xs) (take (left - length xs) ys ++ take ((left - length xs) - length ys) zs)
    ∙ ap (λ (l : List Pair). read ++ (take left xs ++ l)) (sym (take_parts ys zs (left - length xs)))
    ∙ ap (λ (l : List Pair). read ++ l) (sym (take_parts xs (ys ++ zs) left))
    ∙ is

-- a change that is passed while pairs are read, in rising order and in falling order
module _ (k : KeyBytes) (v old : Option ValueBytes) (pairs before behind : List Pair) (cut : AreCutAt pairs k before old behind) (sorted : T (is_sorted key_cmp pairs))
    (read whole : List Pair) (left : ℕ) where
  pub passed_up : (upper : List Change) → T (is_sorted key_cmp ((k, v) ∷ upper)) → read ++ take left (changed_pairs ((k, v) ∷ upper) pairs) ≡ whole →
      ((read ++ take left before) ++ take (left - length before) (with_value k v [])) ++ take ((left - length before) - length (with_value k v [])) (changed_pairs upper behind) ≡ whole
  passed_up upper rising is =
      added_parts read before (with_value k v []) (changed_pairs upper behind) whole left
      (ap (λ (l : List Pair). read ++ take left (before ++ l)) (value_then k v (changed_pairs upper behind))
      ∙ ap (λ (l : List Pair). read ++ take left l) (sym (cut_changed k old pairs before behind cut sorted v [] upper rising)) ∙ is)

  pub passed_down : (lower : List Change) → T (is_sorted key_cmp (lower ++ (k, v) ∷ [])) → read ++ take left (reverse (changed_pairs (lower ++ (k, v) ∷ []) pairs)) ≡ whole →
      ((read ++ take left (reverse behind)) ++ take (left - length behind) (with_value k v [])) ++ take ((left - length behind) - length (with_value k v [])) (reverse (changed_pairs lower before)) ≡ whole
  passed_down lower rising is =
      ap (λ n. ((read ++ take left (reverse behind)) ++ take (left - n) (with_value k v [])) ++ take ((left - n) - length (with_value k v [])) (reverse (changed_pairs lower before))) (sym (length-reverse behind))
      ∙ added_parts read (reverse behind) (with_value k v []) (reverse (changed_pairs lower before)) whole left
      (ap (λ (l : List Pair). read ++ take left l) (turned_whole ∙ ap (λ (l : List Pair). reverse (changed_pairs lower before ++ l)) (value_then k v behind))
      ∙ ap (λ (l : List Pair). read ++ take left (reverse l)) (sym (cut_changed k old pairs before behind cut sorted v lower [] rising)) ∙ is)
    where
      one : (v : Option ValueBytes) → reverse (with_value k v []) ≡ with_value k v []
      one None = refl
      one (Some u) = refl

      turned_whole : reverse behind ++ (with_value k v [] ++ reverse (changed_pairs lower before)) ≡ reverse (changed_pairs lower before ++ (with_value k v [] ++ behind))
      turned_whole = sym (reverse-append (changed_pairs lower before) (with_value k v [] ++ behind)
          ∙ ap (λ (l : List Pair). l ++ reverse (changed_pairs lower before)) (reverse-append (with_value k v []) behind ∙ ap (λ (l : List Pair). reverse behind ++ l) (one v))
          ∙ append_assoc (reverse behind) (with_value k v []) (reverse (changed_pairs lower before)))
