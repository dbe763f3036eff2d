-- A leaf has no more pairs than its base page has and writes lie over it.
use Rattle.std.proofs.Common.{◌≡◌, ℕ, suc, ◌+◌, ◌≤◌, Bool, true, false, cond, ◌||◌, T, List, [], ◌∷◌, ◌++◌, length, map, Some, None, refl, sym, ap, ◌∙◌, subst, arith, length-append}
use Rattle.std.proofs.lemmas.List.{length-map}
use Rattle.std.specs.List.{Contains}
use Rattle.std.specs.declared.cmp.Ordering.{Ordering}
use Rattle.std.specs.declared.cmp.Ordering.TheVariants.{Less, Equal, Greater}
use Rattle.std.specs.Ordering.{is_eq, is_lt}
use Rattle.std.specs.FinMap.{entries, entries_sorted, find, get-entries, is_sorted}
use Rattle.std.specs.FinMap.Entries.{below_all}
use Rattle.bw_key.specs.Order.{KeyBytes, key_cmp, key_ties}
use Rattle.bw_model.specs.Contents.{is_in_range, pairs_of_range}
use Rattle.bw_model.specs.Values.{ValueBytes}
use Rattle.bw_page.proofs.Truths.{holds, true_holds, left_of, right_of}
use Rattle.bw_page.proofs.KeyLemmas.{below_self, cmp_self, keys_tie}
use Rattle.bw_delta.specs.Batches.{writes_to}
use Rattle.bw_delta.specs.History.{action_at, history, HasDistinctStamps}
use Rattle.bw_delta.specs.Writes.{WriteView}
use Rattle.bw_delta.proofs.Histories.{quiet}
use Rattle.bw_delta.proofs.PairMaps.{find_in_range, sorted_in_range}
use Rattle.bw_level.specs.Before.{low_of}
use Rattle.bw_level.specs.Levels.{AreLevels, IsHome, row}
use Rattle.bw_level.specs.Reading.{pairs_under, row_writes, value_in, writes_over}
use Rattle.bw_level.specs.Scans.{high_of}
use Rattle.bw_level.specs.Slots.{Slot, slot_at}
use Rattle.bw_level.specs.Splits.{slot_entries}
use Rattle.bw_level.proofs.HomeLemmas.{home_value}
use Rattle.bw_look.specs.Shapes.{pairs_on}
use Rattle.bw_look.specs.View.{TreeView, contents_at}
use Rattle.bw_look.proofs.LeafRangeLemmas.{leaf_in_row}
use Rattle.bw_look.proofs.ShapeLemmas.{leaf_there}

untrue : false ≡ true → ⊥
untrue e = cc

nothing : {A : Type 0} {x : A} → None ≡ Some x → ⊥
nothing e = cc

equal : (o : Ordering) → is_eq o ≡ true → o ≡ Equal
equal Less e = absurd (untrue e)
equal Equal e = refl
equal Greater e = absurd (untrue e)

tied : (a b : KeyBytes) → is_eq (key_cmp a b) ≡ true → a ≡ b
tied a b e = keys_tie a b (equal (key_cmp a b) e)

-- whether a key is one of these, and these without it
abbrev is_among : KeyBytes → List KeyBytes → Bool
is_among k [] = false
is_among k (x ∷ xs) = is_eq (key_cmp k x) || is_among k xs

abbrev without : KeyBytes → List KeyBytes → List KeyBytes
without k [] = []
without k (x ∷ xs) = cond (is_eq (key_cmp k x)) xs (x ∷ without k xs)

one_less : (k : KeyBytes) (ks : List KeyBytes) → is_among k ks ≡ true → suc (length (without k ks)) ≡ length ks
one_less k [] e = absurd (untrue e)
one_less k (x ∷ xs) e = by (is_eq (key_cmp k x)) e (one_less k xs)
  where
    by : (b : Bool) → (b || is_among k xs) ≡ true → (is_among k xs ≡ true → suc (length (without k xs)) ≡ length xs) → suc (length (cond b xs (x ∷ without k xs))) ≡ suc (length xs)
    by true e rest = refl
    by false e rest = ap suc (rest e)

still_among : (k q : KeyBytes) (ks : List KeyBytes) → is_eq (key_cmp q k) ≡ false → is_among q ks ≡ true → is_among q (without k ks) ≡ true
still_among k q [] other e = e
still_among k q (x ∷ xs) other e = by (is_eq (key_cmp k x)) (is_eq (key_cmp q x)) refl refl e (still_among k q xs other)
  where
    by : (b c : Bool) → is_eq (key_cmp k x) ≡ b → is_eq (key_cmp q x) ≡ c → (c || is_among q xs) ≡ true → (is_among q xs ≡ true → is_among q (without k xs) ≡ true) → is_among q (cond b xs (x ∷ without k xs)) ≡ true
    by true true k_is q_is e rest = absurd (untrue (sym other ∙ ap (λ y. is_eq (key_cmp q y)) (tied k x k_is) ∙ q_is))
    by true false k_is q_is e rest = e
    by false true k_is q_is e rest = ap (λ c. c || is_among q (without k xs)) q_is
    by false false k_is q_is e rest = ap (λ c. c || is_among q (without k xs)) q_is ∙ rest e

among_either : (k : KeyBytes) (xs ys : List KeyBytes) → is_among k (xs ++ ys) ≡ (is_among k xs || is_among k ys)
among_either k [] ys = refl
among_either k (x ∷ xs) ys = ap (λ b. is_eq (key_cmp k x) || b) (among_either k xs ys) ∙ by (is_eq (key_cmp k x))
  where
    by : (b : Bool) → (b || (is_among k xs || is_among k ys)) ≡ ((b || is_among k xs) || is_among k ys)
    by true = refl
    by false = refl

apart : (x k : KeyBytes) → is_lt (key_cmp x k) ≡ true → is_eq (key_cmp k x) ≡ false
apart x k above = by (is_eq (key_cmp k x)) refl
  where
    by : (b : Bool) → is_eq (key_cmp k x) ≡ b → b ≡ false
    by true is = absurd (untrue (sym (below_self x) ∙ ap (λ q. is_lt (key_cmp x q)) (sym (tied k x is)) ∙ above))
    by false is = refl

module _ {V : Type 0} where
  -- a key that is found behind others is above them
  later : (x : KeyBytes) (es : List (KeyBytes × V)) → T (below_all key_cmp x es) → (k : KeyBytes) (v : V) → find key_cmp k es ≡ Some v → is_lt (key_cmp x k) ≡ true
  later x [] below k v found = absurd (nothing found)
  later x (e ∷ es) below k v found = by (is_eq (key_cmp k e.0)) refl found (later x es (right_of _ _ below) k v)
    where
      by : (b : Bool) → is_eq (key_cmp k e.0) ≡ b → cond b (Some e.1) (find key_cmp k es) ≡ Some v → (find key_cmp k es ≡ Some v → is_lt (key_cmp x k) ≡ true) → is_lt (key_cmp x k) ≡ true
      by true is found rest = subst (λ q. is_lt (key_cmp x q) ≡ true) (sym (tied k e.0 is)) (holds _ (left_of _ _ below))
      by false is found rest = rest found

  -- pairs in the order of their keys are no more than the keys among which all of theirs are
  no_more : (es : List (KeyBytes × V)) (ks : List KeyBytes) → T (is_sorted key_cmp es) → ((k : KeyBytes) (v : V) → find key_cmp k es ≡ Some v → is_among k ks ≡ true) → length es ≤ length ks
  no_more [] ks sorted all = omega arith
  no_more (e ∷ es) ks sorted all =
      let here = all e.0 e.1 (ap (λ o. cond (is_eq o) (Some e.1) (find key_cmp e.0 es)) (cmp_self e.0)) in
      let others : length es ≤ length (without e.0 ks) = no_more es (without e.0 ks) (right_of _ _ sorted) (λ k v found.
      let other = apart e.0 k (later e.0 es (left_of _ _ sorted) k v found) in
      still_among e.0 k ks other (all k v (ap (λ b. cond b (Some e.1) (find key_cmp k es)) other ∙ found))) in
      omega (arith, others, one_less e.0 ks here)

  not_found : (k : KeyBytes) (es : List (KeyBytes × V)) → is_among k (map (λ e. e.0) es) ≡ false → find key_cmp k es ≡ None
  not_found k [] none = refl
  not_found k (e ∷ es) none = by (is_eq (key_cmp k e.0)) none (not_found k es)
    where
      by : (b : Bool) → (b || is_among k (map (λ e. e.0) es)) ≡ false → (is_among k (map (λ e. e.0) es) ≡ false → find key_cmp k es ≡ None) → cond b (Some e.1) (find key_cmp k es) ≡ None
      by true none rest = absurd (untrue (sym none))
      by false none rest = rest none

not_written : (k : KeyBytes) (ws : List WriteView) → is_among k (map (λ w. w.key) ws) ≡ false → writes_to k ws ≡ []
not_written k [] none = refl
not_written k (w ∷ ws) none = ap (λ b. cond b (w ∷ writes_to k ws) (writes_to k ws)) (key_ties k w.key) ∙ by (is_eq (key_cmp k w.key)) none (not_written k ws)
  where
    by : (b : Bool) → (b || is_among k (map (λ w. w.key) ws)) ≡ false → (is_among k (map (λ w. w.key) ws) ≡ false → writes_to k ws ≡ []) → cond b (w ∷ writes_to k ws) (writes_to k ws) ≡ []
    by true none rest = absurd (untrue (sym none))
    by false none rest = rest none

-- the keys of a leaf's base page and of the writes over it
abbrev keys_on : Slot → List KeyBytes
keys_on slot = map (λ e. e.0) (pairs_under slot) ++ map (λ w. w.key) (writes_over slot)

-- a key that has a value on a leaf is one of them
valued_among : (slot : Slot) (k : KeyBytes) (stamp : ℕ) (v : ValueBytes) → value_in slot k stamp ≡ Some v → is_among k (keys_on slot) ≡ true
valued_among slot k stamp v is = among_either k (map (λ e. e.0) (pairs_under slot)) (map (λ w. w.key) (writes_over slot)) ∙ by (is_among k (map (λ e. e.0) (pairs_under slot))) (is_among k (map (λ w. w.key) (writes_over slot))) refl refl
  where
    by : (b c : Bool) → is_among k (map (λ e. e.0) (pairs_under slot)) ≡ b → is_among k (map (λ w. w.key) (writes_over slot)) ≡ c → (b || c) ≡ true
    by true c based written = refl
    by false true based written = refl
    by false false based written =
        absurd (nothing (sym (quiet None (action_at []) stamp (λ t below. refl))
        ∙ sym (ap (λ ws. history None (action_at ws) stamp) (not_written k (writes_over slot) written))
        ∙ sym (ap (λ o. history o (action_at (writes_to k (writes_over slot))) stamp) (not_found k (pairs_under slot) based)) ∙ is))

module _ (tree : TreeView) (root : ℕ) (lawful : AreLevels tree.slots root tree.levels) (distinct : HasDistinctStamps (row_writes tree.slots (row tree.levels 0))) where
  -- the keys of a leaf's range are at home there
  at_home : (p : ℕ) → Contains (row tree.levels 0) p → (k : KeyBytes) → is_in_range (low_of (slot_at tree.slots p)) (high_of (slot_at tree.slots p)) k ≡ true → IsHome tree.slots tree.levels k p
  at_home p has k inside =
      let st = (leaf_in_row tree.slots root tree.levels lawful p has).stands in
      let here = true_holds _ (ap (λ (s : Slot). is_in_range (low_of s) (high_of s) k) (sym st.is) ∙ inside) in
      record {
        reached = record { within = lawful.some; in_level = has; state = st.state; is = st.is; from_low = left_of _ _ here };
        ends_above = right_of _ _ here;
      }

  -- what the tree holds in a leaf's range has a value there
  valued : (p stamp : ℕ) → Contains (row tree.levels 0) p → (k : KeyBytes) (v : ValueBytes) →
      find key_cmp k (pairs_of_range (contents_at tree stamp) (low_of (slot_at tree.slots p)) (high_of (slot_at tree.slots p))) ≡ Some v → value_in (slot_at tree.slots p) k stamp ≡ Some v
  valued p stamp has k v found =
      let slot = slot_at tree.slots p in
      by (is_in_range (low_of slot) (high_of slot) k) refl (sym (find_in_range (low_of slot) (high_of slot) k (entries (contents_at tree stamp))) ∙ found)
    where
      by : (b : Bool) → is_in_range (low_of (slot_at tree.slots p)) (high_of (slot_at tree.slots p)) k ≡ b → cond b (find key_cmp k (entries (contents_at tree stamp))) None ≡ Some v → value_in (slot_at tree.slots p) k stamp ≡ Some v
      by true inside found = sym (home_value tree.slots root tree.levels lawful distinct k p stamp (at_home p has k inside)) ∙ get-entries (contents_at tree stamp) k ∙ found
      by false outside found = absurd (nothing found)

  -- so there are no more such pairs
  pub leaf_bounded : (p : ℕ) → Contains (row tree.levels 0) p → pairs_on tree (slot_at tree.slots p) ≤ length (pairs_under (slot_at tree.slots p)) + length (writes_over (slot_at tree.slots p))
  leaf_bounded p has =
      let slot = slot_at tree.slots p in
      let all = pairs_of_range (contents_at tree tree.next) (low_of slot) (high_of slot) in
      let bound = no_more all (keys_on slot) (sorted_in_range (low_of slot) (high_of slot) (entries (contents_at tree tree.next)) (entries_sorted (contents_at tree tree.next))) (λ k v found. valued_among slot k tree.next v (valued p tree.next has k v found)) in
      let is : pairs_on tree slot ≡ length all = ap (λ b. cond b (length all) (slot_entries slot)) (leaf_there tree root lawful p has) in
      omega (arith, bound, is, length-append (map (λ e. e.0) (pairs_under slot)) (map (λ w. w.key) (writes_over slot)), length-map (pairs_under slot) (λ e. e.0), length-map (writes_over slot) (λ w. w.key))
