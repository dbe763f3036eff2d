-- Consolidation of one leaf leaves a tree that holds the same.
use Rattle.std.proofs.Common.{inl, inr, ◌⊎◌, set, ◌≡◌, ℕ, true, false, cond, nat_eq, ◌<◌, ◌≤◌, ◌^◌, T, List, [], ◌∷◌, ◌++◌, length, map, Option, Some, None, refl, sym, ap, ◌∙◌, subst, arith, append_assoc}
use Rattle.std.proofs.lemmas.Bool.{cases_eq, cases_lt}
use Rattle.std.proofs.lemmas.Option.{slice_get-get_or}
use Rattle.std.proofs.lemmas.List.{get_or-set_same, get_or-set_other, length-map, length-set}
use Rattle.std.specs.List.{AllByRecursion, Contains, IsDistinct}
use Rattle.std.specs.Prelude.{slice_get, slice_index}
use Rattle.std.specs.FinMap.{entries, find, get-entries}
use Rattle.bw_key.specs.Order.{KeyBytes, key_cmp}
use Rattle.bw_model.specs.Contents.{is_below_end, is_in_range}
use Rattle.bw_model.specs.Values.{ValueBytes}
use Rattle.bw_page.specs.Inners.{IsUpto}
use Rattle.bw_page.specs.Leaves.{LeafView}
use Rattle.bw_page.specs.declared.pages.Page.TheVariants.{Leaf as LeafPage}
use Rattle.bw_page.proofs.Truths.{both_of, holds}
use Rattle.bw_delta.specs.History.{HasDistinctStamps, action_at}
use Rattle.bw_delta.specs.Writes.{WriteView}
use Rattle.bw_delta.proofs.Histories.{quiet}
use Rattle.bw_delta.proofs.PairMaps.{find_in_range}
use Rattle.bw_level.specs.Searches.{AllStand}
use Rattle.bw_level.specs.Changes.{Bases}
use Rattle.bw_chain.specs.Chains.{Records, slot_of_word, slots_of}
use Rattle.bw_level.specs.Slots.{Slot, PageState, Body, Pairs, Children, Free, Gone, Live, IsSoundBody, children_of, level_of, side_of_slot, slot_at}
use Rattle.bw_level.specs.Before.{low_of}
use Rattle.bw_level.specs.Entries.{AreExact}
use Rattle.bw_level.specs.Levels.{AreLevels, IsHome, row, levels_under}
use Rattle.bw_level.specs.Reading.{contents_in, row_writes, value_in, writes_over}
use Rattle.bw_level.specs.Scans.{high_of}
use Rattle.bw_level.specs.KeptLevels.{AreAlike, IsAlike}
use Rattle.bw_chain.specs.Supports.{base_under}
use Rattle.bw_level.proofs.AlikeLemmas.{exact_alike, levels_alike, stand_alike}
use Rattle.bw_chain.proofs.BaseLemmas.{low, others_kept, put_there}
use Rattle.bw_level.proofs.HomeLemmas.{home_value, one_home}
use Rattle.bw_level.proofs.LevelLemmas.{levels_now}
use Rattle.bw_chain.proofs.ReadingLemmas.{slot_of_head}
use Rattle.bw_level.proofs.RouteLemmas.{held}
use Rattle.bw_level.proofs.RowLemmas.{InRow}
use Rattle.bw_level.proofs.StepLemmas.{contents_kept}
use Rattle.bw_tree.specs.Consolidation.{IsConsolidated}
use Rattle.bw_look.specs.PageStates.{leaf_as_of}
use Rattle.bw_tree.specs.Making.{leaf_slot}
use Rattle.bw_look.specs.Trees.{IsStanding, IsTree, StageWords, view_of}
use Rattle.bw_look.specs.View.{StageView, TreeView, contents_at}
use Rattle.bw_look.proofs.RoutingLemmas.{slot_past}
use Rattle.bw_look.proofs.ConsolidatedLeaves.{consolidated_rules}
use Rattle.bw_tree.proofs.RebaseLemmas.{put_on, stands_with}
use Rattle.bw_look.proofs.LeafRangeLemmas.{leaf_in_row}

alike_same : (slot other : Slot) → other ≡ slot → AreAlike slot other
alike_same Free other is = is
alike_same (Gone l) other is = is
alike_same (Live s) other is = record { state = s; is = is; sound = λ h. h; level = refl; children = refl; low = refl; high = refl; side = refl }

no_children : (low : KeyBytes) (high : Option KeyBytes) (side : Option ℕ) (b : Body) → IsSoundBody low high side b → level_of b ≡ 0 → children_of b ≡ []
no_children low high side (Pairs pairs writes) sound e = refl
no_children low high side (Children n children) sound e = absurd (omega (arith, sound.raised, e))

not_free : {s : PageState} → Free ≡ Live s → ⊥
not_free e = cc

-- what holds of writes still holds without some of them
module _ (P : WriteView → Type 0) where
  all_without : (xs ys zs : List WriteView) → AllByRecursion P (xs ++ (ys ++ zs)) → AllByRecursion P (xs ++ zs)
  all_without [] [] zs h = h
  all_without [] (y ∷ ys) zs h = all_without [] ys zs h.1
  all_without (x ∷ xs) ys zs h = (h.0, all_without xs ys zs h.1)

distinct_without : (xs ys zs : List WriteView) → HasDistinctStamps (xs ++ (ys ++ zs)) → HasDistinctStamps (xs ++ zs)
unfolding IsDistinct
distinct_without [] [] zs h = h
distinct_without [] (y ∷ ys) zs h = distinct_without [] ys zs h.1
distinct_without (x ∷ xs) ys zs h = (apart xs h.0, distinct_without xs ys zs h.1)
  where
    apart : (xs : List WriteView) → AllByRecursion (λ y. nat_eq x.stamp y ≡ false) (map (λ (w : WriteView). w.stamp) (xs ++ (ys ++ zs))) → AllByRecursion (λ y. nat_eq x.stamp y ≡ false) (map (λ (w : WriteView). w.stamp) (xs ++ zs))
    apart [] h = behind ys h
      where
        behind : (ys : List WriteView) → AllByRecursion (λ y. nat_eq x.stamp y ≡ false) (map (λ (w : WriteView). w.stamp) (ys ++ zs)) → AllByRecursion (λ y. nat_eq x.stamp y ≡ false) (map (λ (w : WriteView). w.stamp) zs)
        behind [] h = h
        behind (y ∷ ys) h = behind ys h.1
    apart (v ∷ vs) h = (h.0, apart vs h.1)

-- the writes of a row but those of one page
module _ (Q : List WriteView → Type 0) (without : (xs ys zs : List WriteView) → Q (xs ++ (ys ++ zs)) → Q (xs ++ zs)) (old new : List Slot) (p : ℕ) (none : writes_over (slot_at new p) ≡ []) (same : (q : ℕ) → (q ≡ p → ⊥) → slot_at new q ≡ slot_at old q) where
  row_without : (before : List WriteView) (ps : List ℕ) → Q (before ++ row_writes old ps) → Q (before ++ row_writes new ps)
  row_without before [] h = h
  row_without before (q ∷ qs) h = by (cases_eq q p) (λ before. row_without before qs)
    where
      by : (q ≡ p) ⊎ (q ≡ p → ⊥) → ((before : List WriteView) → Q (before ++ row_writes old qs) → Q (before ++ row_writes new qs)) → Q (before ++ (writes_over (slot_at new q) ++ row_writes new qs))
      by (inl here) more =
          subst (λ (l : List WriteView). Q (before ++ (l ++ row_writes new qs))) (sym (ap (λ r. writes_over (slot_at new r)) here ∙ none))
          (more before (without before (writes_over (slot_at old q)) (row_writes old qs) h))
      by (inr other) more =
          subst (λ (l : List WriteView). Q (before ++ (l ++ row_writes new qs))) (sym (ap writes_over (same q other)))
          (subst Q (append_assoc before (writes_over (slot_at old q)) (row_writes new qs))
          (more (before ++ writes_over (slot_at old q)) (subst Q (sym (append_assoc before (writes_over (slot_at old q)) (row_writes old qs))) h)))

-- a page and what it was, with the same range
was_ranged : (slot other : Slot) (t : PageState) → AreAlike slot other → other ≡ Live t → (s : PageState) × (slot ≡ Live s) × (t.low ≡ s.low) × (t.high ≡ s.high)
was_ranged Free other t is live = absurd (not_free (sym is ∙ live))
was_ranged (Gone l) other t is live = absurd (not_gone (sym is ∙ live))
  where
    not_gone : {s : PageState} → Gone l ≡ Live s → ⊥
    not_gone e = cc
was_ranged (Live s) other t a live =
    let same : t ≡ a.state = one_state (sym live ∙ a.is) in
    (s, refl, ap (λ (r : PageState). r.low) same ∙ a.low, ap (λ (r : PageState). r.high) same ∙ a.high)
  where
    one_state : {s t : PageState} → Live s ≡ Live t → s ≡ t
    one_state e = cc

module _ (heads : List ℕ) (bases : Bases) (records : Records) (root next : ℕ) (t : IsStanding heads bases records root next) (p : ℕ) (has : Contains (row (levels_under (slots_of heads bases records) root) 0) p) where
  abbrev old : TreeView
  old = view_of heads bases records root next None

  abbrev leaf : LeafView ValueBytes
  leaf = leaf_as_of old p old.next

  at : InRow old.slots 0 (row old.levels 0) has.0 p
  at = leaf_in_row old.slots root old.levels t.lawful p has

  pub within : p < length heads
  within = omega (arith, held old.slots p (λ free. not_free (sym free ∙ at.stands.is)), length-map heads (slot_of_word bases records))

  abbrev word : ℕ
  word = slice_index heads p

  pub at_p : slice_get heads p ≡ Some word
  at_p = slice_get-get_or heads p 0 within

  abbrev base : ℕ
  base = base_under records word

  abbrev heads' : List ℕ
  heads' = set heads p base

  abbrev bases' : Bases
  bases' = set bases base (Some (LeafPage leaf))

  abbrev new : TreeView
  new = view_of heads' bases' records root next None

  pub page_new : slot_at new.slots p ≡ leaf_slot leaf
  page_new =
      slot_of_head bases' records heads' p 0 (omega (arith, within, length-set heads p base))
      ∙ ap (slot_of_word bases' records) (get_or-set_same heads p base 0 within)
      ∙ put_there heads bases records t.ends t.own p word at_p (LeafPage leaf)

  pub others_new : (q : ℕ) → (q ≡ p → ⊥) → slot_at new.slots q ≡ slot_at old.slots q
  others_new q other = by (cases_lt q (length heads))
    where
      by : (q < length heads) ⊎ (length heads ≤ q) → slot_at new.slots q ≡ slot_at old.slots q
      by (inl lt) =
          slot_of_head bases' records heads' q 0 (omega (arith, lt, length-set heads p base))
          ∙ ap (slot_of_word bases' records) (get_or-set_other heads p q base 0 other)
          ∙ others_kept heads bases records t.ends t.own p word at_p (LeafPage leaf) q (slice_index heads q) (slice_get-get_or heads q 0 lt) other
          ∙ sym (slot_of_head bases records heads q 0 lt)
      by (inr ge) =
          slot_past (slot_of_word bases' records) heads' q (omega (arith, ge, length-set heads p base))
          ∙ sym (slot_past (slot_of_word bases records) heads q ge)

  here_alike : IsAlike at.stands.state (slot_at new.slots p)
  here_alike = record {
    state = record { low = leaf.low; high = leaf.high; side = leaf.side; body = Pairs leaf.pairs [] };
    is = page_new;
    sound = λ h. record { page = consolidated_rules old root t.lawful p has; inside = tt };
    level = sym at.stands.at_level;
    children = sym (no_children at.stands.state.low at.stands.state.high at.stands.state.side at.stands.state.body at.stands.sound at.stands.at_level);
    low = ap low_of at.stands.is;
    high = ap high_of at.stands.is;
    side = ap side_of_slot at.stands.is;
  }

  alike : (q : ℕ) → AreAlike (slot_at old.slots q) (slot_at new.slots q)
  alike q = by (cases_eq q p)
    where
      by : (q ≡ p) ⊎ (q ≡ p → ⊥) → AreAlike (slot_at old.slots q) (slot_at new.slots q)
      by (inl here) =
          subst (λ r. AreAlike (slot_at old.slots r) (slot_at new.slots r)) (sym here)
          (subst (λ (o : Slot). AreAlike o (slot_at new.slots p)) (sym at.stands.is) here_alike)
      by (inr other) = alike_same (slot_at old.slots q) (slot_at new.slots q) (others_new q other)

  lawful_new : AreLevels new.slots root old.levels
  lawful_new = levels_alike old.slots new.slots root old.levels alike t.lawful

  pub same_levels : new.levels ≡ old.levels
  same_levels = levels_now new.slots root old.levels lawful_new

  none_new : writes_over (slot_at new.slots p) ≡ []
  none_new = ap writes_over page_new

  distinct_new : HasDistinctStamps (row_writes new.slots (row old.levels 0))
  distinct_new = row_without HasDistinctStamps distinct_without old.slots new.slots p none_new others_new [] (row old.levels 0) t.distinct

  abbrev IsPast : WriteView → Type 0
  IsPast w = w.stamp < next

  past_new : AllByRecursion IsPast (row_writes new.slots (row old.levels 0))
  past_new = row_without (AllByRecursion IsPast) (all_without IsPast) old.slots new.slots p none_new others_new [] (row old.levels 0) t.past

  pub standing_new : IsStanding heads' bases' records root next
  standing_new = stands_with heads bases records root next t p word within at_p (LeafPage leaf)
      (subst (AreLevels new.slots root) (sym same_levels) lawful_new)
      (subst (AreExact new.slots) (sym same_levels) (exact_alike old.slots new.slots alike old.levels t.exact))
      (subst (AllStand new.slots) (sym same_levels) (stand_alike old.slots new.slots alike old.levels t.stand))
      (subst (λ (l : List (List ℕ)). HasDistinctStamps (row_writes new.slots (row l 0))) (sym same_levels) distinct_new)
      (subst (λ (l : List (List ℕ)). AllByRecursion IsPast (row_writes new.slots (row l 0))) (sym same_levels) past_new)
      same_levels

  pub home_was : (key : KeyBytes) (q : ℕ) → IsHome new.slots old.levels key q → IsHome old.slots old.levels key q
  home_was key q h =
      let r = h.reached in
      let was = was_ranged (slot_at old.slots q) (slot_at new.slots q) r.state (alike q) r.is in
      record {
        reached = record { within = r.within; in_level = r.in_level; state = was.0; is = was.1; from_low = subst (λ (k : KeyBytes). IsUpto k key) was.2 r.from_low };
        ends_above = subst (λ (o : Option KeyBytes). T (is_below_end o key)) was.3 h.ends_above;
      }

  -- the leaf's page has at a key of its range what the tree held there
  value_here : (key : KeyBytes) → IsHome old.slots old.levels key p → value_in (slot_at new.slots p) key next ≡ value_in (slot_at old.slots p) key next
  value_here key h =
      let m = contents_at old next in
      let slot = slot_at old.slots p in
      let inside : is_in_range (low_of slot) (high_of slot) key ≡ true = holds _ (subst (λ (o : Slot). T (is_in_range (low_of o) (high_of o) key)) (sym h.reached.is) (both_of _ _ h.reached.from_low h.ends_above)) in
      ap (λ (o : Slot). value_in o key next) page_new
      ∙ quiet (find key_cmp key leaf.pairs) (action_at []) next (λ s lt. refl)
      ∙ find_in_range (low_of slot) (high_of slot) key (entries m)
      ∙ ap (λ b. cond b (find key_cmp key (entries m)) None) inside
      ∙ sym (get-entries m key)
      ∙ home_value old.slots root old.levels t.lawful t.distinct key p next h

  value_new : (key : KeyBytes) (x y : ℕ) → IsHome old.slots old.levels key x → IsHome new.slots old.levels key y → value_in (slot_at new.slots y) key next ≡ value_in (slot_at old.slots x) key next
  value_new key x y h k = by (cases_eq y p)
    where
      was : IsHome old.slots old.levels key y
      was = home_was key y k

      same : y ≡ x
      same = one_home old.slots root old.levels t.lawful key y x was h

      by : (y ≡ p) ⊎ (y ≡ p → ⊥) → value_in (slot_at new.slots y) key next ≡ value_in (slot_at old.slots x) key next
      by (inl here) =
          ap (λ r. value_in (slot_at new.slots r) key next) here
          ∙ value_here key (subst (IsHome old.slots old.levels key) here was)
          ∙ ap (λ r. value_in (slot_at old.slots r) key next) (sym here ∙ same)
      by (inr other) =
          ap (λ (o : Slot). value_in o key next) (others_new y other)
          ∙ ap (λ r. value_in (slot_at old.slots r) key next) same

  pub contents_new : contents_at new next ≡ contents_at old next
  contents_new =
      ap (λ (l : List (List ℕ)). contents_in new.slots l next) same_levels
      ∙ contents_kept old.slots new.slots root root old.levels old.levels next next t.lawful lawful_new t.distinct distinct_new value_new

  consolidated_new : IsConsolidated old new p
  consolidated_new =
      let placed : slice_index heads' p ≡ base = get_or-set_same heads p base 0 within in
      record {
        page = page_new;
        others = others_new;
        contents = contents_new;
        plain = subst (λ n. n < 2 ^ 32) (sym placed) (low heads bases records t.ends t.own p word at_p (LeafPage leaf));
        heads = ap (set heads p) (sym placed);
        root = refl;
        levels = same_levels;
        records = refl;
        next = refl;
        staged = refl;
      }

module _ (heads : List ℕ) (bases : Bases) (records : Records) (root next : ℕ) (tree : TreeView) (p : ℕ) where
  abbrev IsMade : List ℕ → Bases → Records → Type 0
  IsMade h b r = IsTree h b r root next None × IsConsolidated tree (view_of h b r root next None) p

  abbrev view : TreeView
  view = view_of heads bases records root next None

  abbrev under : ℕ
  under = base_under records (slice_index heads p)

  abbrev made : LeafView ValueBytes
  made = leaf_as_of view p view.next

  made_here : IsTree heads bases records root next None → view ≡ tree → Contains (row tree.levels 0) p → IsMade (set heads p under) (set bases under (Some (LeafPage made))) records
  made_here t is has =
      let has_here : Contains (row view.levels 0) p = subst (λ (v : TreeView). Contains (row v.levels 0) p) (sym is) has in (
        record { now = standing_new heads bases records root next t.now p has_here; stage = tt },
        subst (λ (v : TreeView). IsConsolidated v (view_of (set heads p under) (set bases under (Some (LeafPage made))) records root next None) p) is (consolidated_new heads bases records root next t.now p has_here),
      )

  made_on : (leaf : LeafView ValueBytes) → IsTree heads bases records root next None → view ≡ tree → Contains (row tree.levels 0) p → leaf ≡ leaf_as_of tree p tree.next →
      (heads' : List ℕ) (bases' : Bases) (records' : Records) (base : ℕ) → base ≡ under → heads' ≡ set heads p base → bases' ≡ set bases base (Some (LeafPage leaf)) → records' ≡ records → IsMade heads' bases' records'
  made_on leaf t is has folded heads' bases' records' base based placed put same =
      let is_made : leaf ≡ made = subst (λ (v : TreeView). leaf ≡ leaf_as_of v p v.next) (sym is) folded in
      put_on IsMade heads bases records p under (LeafPage leaf)
      (subst (λ (l : LeafView ValueBytes). IsMade (set heads p under) (set bases under (Some (LeafPage l))) records) (sym is_made) (made_here t is has))
      heads' bases' records' base based placed put same

-- so is a tree that was given the consolidated leaf in the place of the base page
pub consolidated_on : (heads : List ℕ) (bases : Bases) (records : Records) (root next : ℕ) (staged : Option StageWords) (tree : TreeView) (p : ℕ) (leaf : LeafView ValueBytes) → IsTree heads bases records root next staged → view_of heads bases records root next staged ≡ tree → tree.staged ≡ None → Contains (row tree.levels 0) p →
    leaf ≡ leaf_as_of tree p tree.next → (heads' : List ℕ) (bases' : Bases) (records' : Records) (base : ℕ) → base ≡ base_under records (slice_index heads p) → heads' ≡ set heads p base → bases' ≡ set bases base (Some (LeafPage leaf)) → records' ≡ records →
    IsTree heads' bases' records' root next staged × IsConsolidated tree (view_of heads' bases' records' root next staged) p
consolidated_on heads bases records root next None tree p leaf t is none has folded = made_on heads bases records root next tree p leaf t is has folded
consolidated_on heads bases records root next (Some stage) tree p leaf t is none has folded = absurd (unstaged (ap (λ (v : TreeView). v.staged) is ∙ none))
  where
    unstaged : {s : StageView} → Some s ≡ None → ⊥
    unstaged e = cc
