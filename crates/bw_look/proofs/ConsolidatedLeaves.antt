-- A leaf with what the tree holds in its range, which consolidation puts in the place of a chain.
use Rattle.std.proofs.Common.{◌≡◌, ℕ, zero, suc, ◌<◌, Bool, true, false, cond, ◌&&◌, T, List, [], ◌∷◌, length, get_or, Option, Some, None, is_some, refl, sym, ap, ◌∙◌, subst, arith}
use Rattle.std.specs.Prelude.{filter}
use Rattle.std.specs.List.{Contains, list_all}
use Rattle.std.specs.FinMap.{entries, entries_sorted}
use Rattle.std.specs.FinMap.Entries.{where_key}
use Rattle.bw_key.specs.Order.{KeyBytes, key_cmp}
use Rattle.bw_model.specs.Contents.{is_below_end, is_in_range, is_pair_in_range, pairs_of_range}
use Rattle.bw_model.specs.Values.{ValueBytes}
use Rattle.bw_page.specs.Inners.{IsUpto}
use Rattle.bw_page.specs.Leaves.{LeafView}
use Rattle.bw_page.specs.Pages.{IsPage}
use Rattle.bw_delta.specs.History.{HasDistinctStamps}
use Rattle.bw_delta.proofs.PairMaps.{sorted_in_range}
use Rattle.bw_level.specs.Slots.{Slot, Body, Pairs, Children, slot_at, side_of, side_of_slot, IsSoundBody, has_key}
use Rattle.bw_level.specs.Levels.{AreLevels, Stands, SideBySide, row}
use Rattle.bw_level.specs.Before.{low_of}
use Rattle.bw_level.specs.Scans.{ArePairsOn, high_of}
use Rattle.bw_look.specs.PageStates.{HasRules, leaf_as_of}
use Rattle.bw_look.specs.View.{TreeView, contents_at}
use Rattle.bw_level.specs.Reading.{row_writes}
use Rattle.bw_level.proofs.RowLemmas.{first_stands}
use Rattle.bw_level.proofs.LeafRowLemmas.{HasKey, one_has, wide_of}
use Rattle.bw_look.proofs.RangeLemmas.{all_of_those}
use Rattle.bw_look.proofs.LeafRangeLemmas.{leaf_in_row, leaf_pairs}

pub high_is : (slots : List Slot) (level : ℕ) (low : KeyBytes) (high : Option KeyBytes) (side : Option ℕ) (p : ℕ) → Stands slots level low high side p → high_of (slot_at slots p) ≡ high
high_is slots level low high side p st = ap high_of st.is ∙ st.to_high

pub side_is : (slots : List Slot) (level : ℕ) (low : KeyBytes) (high : Option KeyBytes) (side : Option ℕ) (p : ℕ) → Stands slots level low high side p → side_of slots p ≡ side
side_is slots level low high side p st = ap side_of_slot st.is ∙ st.linked

-- the low key, the end and the pairs of a consolidated leaf
pub record AreParts (tree : TreeView) (p : ℕ) (low : KeyBytes) (high : Option KeyBytes) (pairs : List (KeyBytes × ValueBytes)) : Type 0 where
  pub from_low : low ≡ low_of (slot_at tree.slots p)
  pub to_high : high ≡ high_of (slot_at tree.slots p)
  pub all : pairs ≡ pairs_of_range (contents_at tree tree.next) (low_of (slot_at tree.slots p)) (high_of (slot_at tree.slots p))

-- a leaf of these parts
leaf_is : (leaf made : LeafView ValueBytes) → leaf.low ≡ made.low → leaf.high ≡ made.high → leaf.side ≡ made.side → leaf.pairs ≡ made.pairs → leaf ≡ made
leaf_is leaf made low high side pairs =
    ap (λ (k : KeyBytes). record { low = k; high = leaf.high; side = leaf.side; pairs = leaf.pairs }) low
    ∙ ap (λ (o : Option KeyBytes). record { low = made.low; high = o; side = leaf.side; pairs = leaf.pairs }) high
    ∙ ap (λ (o : Option ℕ). record { low = made.low; high = made.high; side = o; pairs = leaf.pairs }) side
    ∙ ap (λ (es : List (KeyBytes × ValueBytes)). record { low = made.low; high = made.high; side = made.side; pairs = es }) pairs

pub is_leaf_as_of : (tree : TreeView) (p : ℕ) (leaf : LeafView ValueBytes) (low : KeyBytes) (high : Option KeyBytes) (pairs : List (KeyBytes × ValueBytes)) → AreParts tree p low high pairs → leaf.low ≡ low → leaf.high ≡ high → leaf.side ≡ side_of tree.slots p → leaf.pairs ≡ pairs →
    leaf ≡ leaf_as_of tree p tree.next
is_leaf_as_of tree p leaf low high pairs parts lows highs sides all = leaf_is leaf (leaf_as_of tree p tree.next) (lows ∙ parts.from_low) (highs ∙ parts.to_high) sides (all ∙ parts.all)

linked_of : (low : KeyBytes) (high : Option KeyBytes) (side : Option ℕ) (b : Body) → IsSoundBody low high side b → is_some side ≡ is_some high
linked_of low high side (Pairs pairs writes) sound = sound.page.linked
linked_of low high side (Children level children) sound = sound.page.linked

all_inside : (low : KeyBytes) (high : Option KeyBytes) (es : List (KeyBytes × ValueBytes)) → T (list_all (is_pair_in_range low high) (filter (is_pair_in_range low high) es))
all_inside low high [] = tt
all_inside low high (e ∷ es) = by (is_in_range low high e.0) refl (all_inside low high es)
  where
    by : (b : Bool) → is_in_range low high e.0 ≡ b → T (list_all (is_pair_in_range low high) (filter (is_pair_in_range low high) es)) →
        T (list_all (is_pair_in_range low high) (cond b (e ∷ filter (is_pair_in_range low high) es) (filter (is_pair_in_range low high) es)))
    by true is rest = subst (λ c. T (c && list_all (is_pair_in_range low high) (filter (is_pair_in_range low high) es))) (sym is) rest
    by false is rest = rest

module _ (tree : TreeView) (root : ℕ) (lawful : AreLevels tree.slots root tree.levels) where
  -- a leaf with what the tree holds in its range is a leaf
  pub consolidated_rules : (p : ℕ) → Contains (row tree.levels 0) p → HasRules (leaf_as_of tree p tree.next)
  consolidated_rules p has =
      let st = (leaf_in_row tree.slots root tree.levels lawful p has).stands in
      let slot = slot_at tree.slots p in
      record {
        sorted = sorted_in_range (low_of slot) (high_of slot) (entries (contents_at tree tree.next)) (entries_sorted (contents_at tree tree.next));
        inside = all_inside (low_of slot) (high_of slot) (entries (contents_at tree tree.next));
        wide = subst (λ (o : Slot). T (is_below_end (high_of o) (low_of o))) (sym st.is) (wide_of st.state.low st.state.high st.state.side st.state.body st.sound);
        linked =
            ap (λ (o : Slot). is_some (side_of_slot o)) st.is ∙ linked_of st.state.low st.state.high st.state.side st.state.body st.sound
            ∙ sym (ap (λ (o : Slot). is_some (high_of o)) st.is);
      }

  -- what a leaf has in its own range is all that the tree holds there
  pub pairs_here : (p stamp : ℕ) (from : KeyBytes) (to : Option KeyBytes) (pairs : List (KeyBytes × ValueBytes)) → HasDistinctStamps (row_writes tree.slots (row tree.levels 0)) → Contains (row tree.levels 0) p →
      stamp ≡ tree.next → from ≡ low_of (slot_at tree.slots p) → to ≡ high_of (slot_at tree.slots p) → ArePairsOn (slot_at tree.slots p) from to stamp pairs →
      pairs ≡ pairs_of_range (contents_at tree tree.next) (low_of (slot_at tree.slots p)) (high_of (slot_at tree.slots p))
  pairs_here p stamp from to pairs distinct has now low high so =
      let st = (leaf_in_row tree.slots root tree.levels lawful p has).stands in
      let slot = slot_at tree.slots p in
      leaf_pairs tree.slots root tree.levels lawful distinct stamp p from to pairs has so
      ∙ ap (λ n. where_key key_cmp (has_key slot) (pairs_of_range (contents_at tree n) from to)) now
      ∙ ap (λ (k : KeyBytes). where_key key_cmp (has_key slot) (pairs_of_range (contents_at tree tree.next) k to)) low
      ∙ ap (λ (o : Option KeyBytes). where_key key_cmp (has_key slot) (pairs_of_range (contents_at tree tree.next) (low_of slot) o)) high
      ∙ all_of_those (has_key slot) (is_in_range (low_of slot) (high_of slot)) (λ k inside. subst (λ (o : Slot). is_in_range (low_of o) (high_of o) k ≡ true → has_key o k ≡ true) (sym st.is) (λ e. e) inside)
      (entries (contents_at tree tree.next))

  pub consolidated_parts : HasDistinctStamps (row_writes tree.slots (row tree.levels 0)) → (p stamp : ℕ) (from : KeyBytes) (to : Option KeyBytes) (low : KeyBytes) (high : Option KeyBytes) (pairs : List (KeyBytes × ValueBytes)) → Contains (row tree.levels 0) p →
      stamp ≡ tree.next → from ≡ low_of (slot_at tree.slots p) → to ≡ high_of (slot_at tree.slots p) → low ≡ from → high ≡ to → ArePairsOn (slot_at tree.slots p) from to stamp pairs → AreParts tree p low high pairs
  consolidated_parts distinct p stamp from to low high pairs has now from_low to_high low_copied high_copied so = record {
    from_low = low_copied ∙ from_low;
    to_high = high_copied ∙ to_high;
    all = pairs_here p stamp from to pairs distinct has now from_low to_high so;
  }

  pub parts_rules : (p : ℕ) (side : Option ℕ) (low : KeyBytes) (high : Option KeyBytes) (pairs : List (KeyBytes × ValueBytes)) → Contains (row tree.levels 0) p → side ≡ side_of tree.slots p → AreParts tree p low high pairs → IsPage low high side pairs
  parts_rules p side low high pairs has sides parts =
      let leaf : LeafView ValueBytes = record { low = low; high = high; side = side; pairs = pairs } in
      subst HasRules (sym (is_leaf_as_of tree p leaf low high pairs parts refl refl sides refl)) (consolidated_rules p has)

  -- the home of the least key is the first page of its level
  pub first_home : (level : ℕ) (ps : List ℕ) (p : ℕ) → SideBySide tree.slots level [] ps → HasKey tree.slots ps [] p → (0 < length ps) × (get_or ps 0 p ≡ p)
  first_home level [] p h home = absurd h
  first_home level (x ∷ xs) p h home = (omega arith, one_has tree.slots level [] (x ∷ xs) [] x p h first home)
    where
      st : Stands tree.slots level [] (first_stands tree.slots level [] x xs h).0 (first_stands tree.slots level [] x xs h).1.0 x
      st = (first_stands tree.slots level [] x xs h).1.1

      first : HasKey tree.slots (x ∷ xs) [] x
      first = record {
        in_row = (0, omega arith, refl);
        state = st.state;
        is = st.is;
        from_low = subst (λ (k : KeyBytes). IsUpto k []) (sym st.from_low) tt;
        ends_above = subst (λ (k : KeyBytes). T (is_below_end st.state.high k)) st.from_low (wide_of st.state.low st.state.high st.state.side st.state.body st.sound);
      }

  -- a leaf that has no end is the last one
  pub row_ends : (level : ℕ) (low : KeyBytes) (ps : List ℕ) (k p : ℕ) → SideBySide tree.slots level low ps → k < length ps → get_or ps k p ≡ p → high_of (slot_at tree.slots p) ≡ None → suc k ≡ length ps
  row_ends level low [] k p h lt at none = absurd h
  row_ends level low (x ∷ []) zero p h lt at none = refl
  row_ends level low (x ∷ []) (suc k) p h lt at none = absurd (omega arith)
  row_ends level low (x ∷ y ∷ ys) zero p h lt at none = absurd (has_end (sym (high_is tree.slots level low (Some h.0) (Some y) x h.1) ∙ ap (λ q. high_of (slot_at tree.slots q)) at ∙ none))
    where
      has_end : Some h.0 ≡ None → ⊥
      has_end e = cc
  row_ends level low (x ∷ y ∷ ys) (suc k) p h lt at none = ap suc (row_ends level h.0 (y ∷ ys) k p h.2 (omega arith) at none)
