-- The pairs of a range that lie on a leaf.
use Rattle.std.proofs.Common.{◌≡◌, ℕ, zero, suc, Bool, true, false, cond, not, ◌&&◌, T, List, [], ◌∷◌, ◌++◌, map, nat_eq, Option, None, refl, sym, ap, ◌∙◌, subst, arith}
use Rattle.std.specs.List.{Contains, AllByRecursion, IsDistinct}
use Rattle.std.specs.Ordering.{is_lt}
use Rattle.std.specs.FinMap.{from_entries, get, entries, entries_sorted, get-entries}
use Rattle.std.specs.FinMap.Entries.{find-where_key, is_sorted-where_key, same_entries, where_key}
use Rattle.bw_key.specs.Order.{KeyBytes, key_cmp, key_cmp_total}
use Rattle.bw_model.specs.Contents.{Contents, is_below_end, is_in_range, pairs_of_range}
use Rattle.bw_model.specs.Values.{ValueBytes}
use Rattle.bw_page.proofs.Truths.{holds, true_holds, holds_not, left_of}
use Rattle.bw_page.proofs.KeyLemmas.{keys_tie, below_self}
use Rattle.bw_delta.specs.Writes.{WriteView}
use Rattle.bw_delta.specs.Batches.{writes_to}
use Rattle.bw_delta.specs.History.{history, action_at, HasDistinctStamps}
use Rattle.bw_delta.specs.ContentsAsOf.{contents_as_of}
use Rattle.bw_delta.proofs.ContentsAsOf.{only_equal_tie}
use Rattle.bw_delta.proofs.PairMaps.{find_in_range, sorted_in_range}
use Rattle.bw_level.specs.Slots.{Slot, PageState, Live, slot_at, has_key}
use Rattle.bw_level.specs.Levels.{AreLevels, IsHome, row}
use Rattle.bw_level.specs.Reading.{value_in, writes_over, row_pairs, row_writes}
use Rattle.bw_level.specs.Scans.{ArePairsOn, high_of}
use Rattle.bw_level.proofs.RowLemmas.{InRow, in_row}
use Rattle.bw_level.proofs.LeafRowLemmas.{page_outside, wide_of}
use Rattle.bw_level.proofs.HomeLemmas.{home_value}

different : true ≡ false → ⊥
different e = cc

one_state : {s t : PageState} → Live s ≡ Live t → s ≡ t
one_state e = cc

-- where there is no value and no write, there is none later
unfolding_none : (stamp : ℕ) → history None (action_at []) stamp ≡ None
unfolding history
unfolding_none zero = refl
unfolding_none (suc stamp) = unfolding_none stamp

-- distinct stamps in a list are so in each part of it
distinct_front : (xs ys : List WriteView) → HasDistinctStamps (xs ++ ys) → HasDistinctStamps xs
unfolding IsDistinct
distinct_front [] ys h = tt
distinct_front (x ∷ xs) ys h = (apart xs h.0, distinct_front xs ys h.1)
  where
    apart : (xs : List WriteView) → AllByRecursion (λ y. nat_eq x.stamp y ≡ false) (map (λ (w : WriteView). w.stamp) (xs ++ ys)) → AllByRecursion (λ y. nat_eq x.stamp y ≡ false) (map (λ (w : WriteView). w.stamp) xs)
    apart [] h = tt
    apart (v ∷ vs) h = (h.0, apart vs h.1)

distinct_back : (xs ys : List WriteView) → HasDistinctStamps (xs ++ ys) → HasDistinctStamps ys
unfolding IsDistinct
distinct_back [] ys h = h
distinct_back (x ∷ xs) ys h = distinct_back xs ys h.1

pub page_distinct : (slots : List Slot) (ps : List ℕ) (p : ℕ) → Contains ps p → HasDistinctStamps (row_writes slots ps) → HasDistinctStamps (writes_over (slot_at slots p))
page_distinct slots [] p has h = absurd (omega (arith, has.1))
page_distinct slots (x ∷ xs) p (zero, lt, at) h = subst (λ q. HasDistinctStamps (writes_over (slot_at slots q))) at (distinct_front (writes_over (slot_at slots x)) (row_writes slots xs) h)
page_distinct slots (x ∷ xs) p (suc k, lt, at) h = page_distinct slots xs p (k, omega (arith, lt), at) (distinct_back (writes_over (slot_at slots x)) (row_writes slots xs) h)

module _ (slots : List Slot) (root : ℕ) (levels : List (List ℕ)) (lawful : AreLevels slots root levels) where
  pub leaf_in_row : (p : ℕ) (has : Contains (row levels 0) p) → InRow slots 0 (row levels 0) has.0 p
  leaf_in_row p has = in_row slots 0 [] (row levels 0) has.0 p (lawful.rows 0 lawful.some) has.1 has.2

  wide : (p : ℕ) (s : PageState) → Contains (row levels 0) p → slot_at slots p ≡ Live s → T (is_below_end s.high s.low)
  wide p s has is =
      let at = leaf_in_row p has in
      subst (λ (t : PageState). T (is_below_end t.high t.low)) (one_state (sym at.stands.is ∙ is)) (wide_of _ _ _ at.stands.state.body at.stands.sound)

  -- a leaf is the home of the keys of its range
  home_of : (key : KeyBytes) (p : ℕ) (s : PageState) → Contains (row levels 0) p → slot_at slots p ≡ Live s → is_lt (key_cmp key s.low) ≡ false → is_below_end s.high key ≡ true → IsHome slots levels key p
  home_of key p s has is from below =
      record { reached = record { within = lawful.some; in_level = has; state = s; is = is; from_low = true_holds _ (ap not from) }; ends_above = true_holds _ below }

  -- and of its low key
  pub own_home : (p : ℕ) (has : Contains (row levels 0) p) → (key : KeyBytes) × IsHome slots levels key p
  own_home p has =
      let at = leaf_in_row p has in
      let s = at.stands.state in
      (s.low, home_of s.low p s has at.stands.is (below_self s.low) (holds _ (wide p s has at.stands.is)))

  module _ (distinct : HasDistinctStamps (row_writes slots (row levels 0))) (stamp : ℕ) where
    abbrev pub contents : Contents ValueBytes
    contents = contents_as_of (from_entries (row_pairs slots (row levels 0))) (row_writes slots (row levels 0)) stamp

    -- a leaf has no value below its low key
    none_below : (key : KeyBytes) (p : ℕ) (s : PageState) → Contains (row levels 0) p → slot_at slots p ≡ Live s → is_lt (key_cmp key s.low) ≡ true → value_in (slot_at slots p) key stamp ≡ None
    none_below key p s has is below =
        let at = leaf_in_row p has in
        let low : at.low ≡ s.low = sym at.stands.from_low ∙ ap (λ (t : PageState). t.low) (one_state (sym at.stands.is ∙ is)) in
        let nothing = page_outside slots 0 at.low at.high at.side p key at.stands (λ inside. different (sym (ap (λ (k : KeyBytes). is_lt (key_cmp key k)) low ∙ below) ∙ holds_not _ (left_of _ _ inside))) in
        ap (λ o. history o (action_at (writes_to key (writes_over (slot_at slots p)))) stamp) nothing.pairs
        ∙ ap (λ (l : List WriteView). history None (action_at l) stamp) nothing.writes
        ∙ unfolding_none stamp

    -- the pairs of a leaf are those of the contents whose keys are in its range
    pub leaf_pairs : (p : ℕ) (from : KeyBytes) (to : Option KeyBytes) (pairs : List (KeyBytes × ValueBytes)) → Contains (row levels 0) p → ArePairsOn (slot_at slots p) from to stamp pairs →
        pairs ≡ where_key key_cmp (has_key (slot_at slots p)) (pairs_of_range contents from to)
    leaf_pairs p from to pairs has so = by (leaf_in_row p has).stands.state (leaf_in_row p has).stands.is
      where
        slot : Slot
        slot = slot_at slots p

        by : (s : PageState) → slot_at slots p ≡ Live s → pairs ≡ where_key key_cmp (has_key (slot_at slots p)) (pairs_of_range contents from to)
        by s is =
            same_entries key_cmp key_cmp_total only_equal_tie pairs (where_key key_cmp (has_key (slot_at slots p)) (pairs_of_range contents from to)) so.sorted
            (is_sorted-where_key key_cmp (has_key (slot_at slots p)) (pairs_of_range contents from to) (sorted_in_range from to (entries contents) (entries_sorted contents)))
            (λ key. so.values key ∙ ap (λ (o : Slot). cond (is_in_range from to key && is_below_end (high_of o) key) (value_in (slot_at slots p) key stamp) None) is
            ∙ at (is_in_range from to key) (is_lt (key_cmp key s.low)) (is_below_end s.high key) (value_in (slot_at slots p) key stamp) (get contents key)
            (λ upto below. sym (home_value slots root levels lawful distinct key p stamp (home_of key p s has is upto below))) (none_below key p s has is)
            ∙ sym (ap (λ (o : Slot). cond (has_key o key) (cond (is_in_range from to key) (get contents key) None) None) is)
            ∙ ap (λ (v : Option ValueBytes). cond (has_key (slot_at slots p) key) (cond (is_in_range from to key) v None) None) (get-entries contents key)
            ∙ ap (λ (v : Option ValueBytes). cond (has_key (slot_at slots p) key) v None) (sym (find_in_range from to key (entries contents)))
            ∙ sym (find-where_key key_cmp (has_key (slot_at slots p)) key (λ x tie. ap (has_key (slot_at slots p)) (sym (keys_tie key x tie))) (pairs_of_range contents from to)))
          where
            at : (a l h : Bool) (v g : Option ValueBytes) → (l ≡ false → h ≡ true → v ≡ g) → (l ≡ true → v ≡ None) → cond (a && h) v None ≡ cond (not l && h) (cond a g None) None
            at true true true v g same none = none refl
            at true true false v g same none = refl
            at true false true v g same none = same refl refl
            at true false false v g same none = refl
            at false true h v g same none = refl
            at false false true v g same none = refl
            at false false false v g same none = refl
