-- What scans read of the leaves that they replay.
use Rattle.std.proofs.Common.{◌≡◌, ℕ, Ordering, zero, suc, ◌-◌, ◌<◌, ◌≤◌, Bool, true, false, cond, not, ◌&&◌, T, List, [], ◌∷◌, ◌++◌, length, reverse, take, Option, Some, None, refl, sym, ap, ◌∙◌, subst, arith}
use Rattle.std.specs.Prelude.{filter}
use Rattle.std.specs.List.{Contains}
use Rattle.std.specs.BTreeMap as kept
use Rattle.std.specs.Map.{lookup}
use Rattle.std.specs.Option.{option_copied}
use Rattle.std.specs.Ordering.{is_eq, is_lt, nat_cmp}
use Rattle.std.specs.declared.cmp.Ordering.TheVariants.{Less, Equal, Greater}
use Rattle.std.specs.FinMap.{entries, entries_sorted, find, is_sorted, nat_cmp-IsAntisymmetric}
use Rattle.std.specs.FinMap.Entries.{where_key}
use Rattle.bw_key.specs.Order.{KeyBytes, key_cmp}
use Rattle.bw_model.specs.Contents.{is_below_end, is_in_range, is_pair_in_range, pairs_of_range}
use Rattle.bw_model.specs.Values.{ValueBytes}
use Rattle.bw_page.specs.Inners.{IsUpto}
use Rattle.bw_page.proofs.Truths.{holds, holds_not, left_of, right_of, true_holds}
use Rattle.bw_page.proofs.KeyLemmas.{below_back, upto_trans}
use Rattle.bw_delta.specs.History.{HasDistinctStamps}
use Rattle.bw_delta.specs.Replays.{ReplayView, StaysUntil}
use Rattle.bw_delta.proofs.PairMaps.{sorted_in_range}
use Rattle.bw_delta.proofs.Replays.{pairs_now}
use Rattle.bw_level.specs.Slots.{Slot, slot_at, has_key}
use Rattle.bw_level.specs.Levels.{AreLevels, IsHome, row}
use Rattle.bw_level.specs.Reading.{base_of, value_in, writes_over, row_writes}
use Rattle.bw_scan.specs.Cursors.{HasRead}
use Rattle.bw_scan.specs.Gaps.{HasNone}
use Rattle.bw_scan.specs.Replaying.{AreEach, IsKept}
use Rattle.bw_level.specs.Scans.{IsLeafReplay, ArePairsOn, Reaches, high_of}
use Rattle.bw_level.specs.Before.{IsBefore, low_of}
use Rattle.bw_scan.specs.declared.scans.ReadLeaf.{ReadLeaf}
use Rattle.bw_look.specs.View.{HomesHoldAll, TreeView, contents_at}
use Rattle.bw_level.proofs.EndLemmas.{upto_end}
use Rattle.bw_scan.proofs.BackLemmas.{ScanningBack, PassedBack, begins_back, no_more_before, passed_back, ends_back, enough_back, goes_back}
use Rattle.bw_scan.proofs.GapLemmas.{none_before, none_between, not_later}
use Rattle.bw_look.proofs.RangeLemmas.{all_of_those}
use Rattle.bw_look.proofs.LeafRangeLemmas.{leaf_in_row, leaf_pairs}
use Rattle.bw_scan.proofs.ScanLemmas.{HasPassed, leaves_behind, begins_scan, fewer_behind, no_more_behind, passes, ends_scan, enough_read}
use Rattle.bw_level.proofs.RowLemmas.{InRow}

-- no first pairs of no pairs
pub none_taken : (n : ℕ) → take {A = KeyBytes × ValueBytes} n [] ≡ []
none_taken zero = refl
none_taken (suc n) = refl

-- the first of two lists, and then of the second as many as are left
pub take_both : {X : Type 0} (most : ℕ) (xs ys : List X) → take most xs ++ take (most - length (take most xs)) ys ≡ take most (xs ++ ys)
take_both zero xs ys = refl
take_both {X} (suc most) [] ys = ap (λ n. take n ys) (all most)
  where
    all : (m : ℕ) → suc m - 0 ≡ suc m
    all m = omega arith
take_both (suc most) (x ∷ xs) ys = ap (λ n. x ∷ take most xs ++ take n ys) (less most (length (take most xs))) ∙ ap (λ (l : List _). x ∷ l) (take_both most xs ys)
  where
    less : (m n : ℕ) → suc m - suc n ≡ m - n
    less m n = omega arith

-- what was read is the first of a whole
pub read_more : {X : Type 0} (most : ℕ) (read new whole piece : List X) → read ≡ take most whole → new ≡ read ++ take (most - length read) piece → new ≡ take most (whole ++ piece)
read_more most read new whole piece front more =
    more ∙ ap (λ (l : List _). l ++ take (most - length l) piece) front ∙ take_both most whole piece

no_longer : {X : Type 0} (n : ℕ) (xs : List X) → length (take n xs) ≤ length xs
no_longer zero xs = omega arith
no_longer (suc n) [] = omega arith
no_longer (suc n) (x ∷ xs) = omega (arith, no_longer n xs)

-- and where that is enough, the whole is
pub whole_enough : {X : Type 0} (most : ℕ) (new whole : List X) → new ≡ take most whole → most ≤ length new → most ≤ length whole
whole_enough most new whole is enough = omega (arith, enough, ap length is, no_longer most whole)

-- the pairs that a replayed leaf has in a range
pub pairs_of_replay : (slot : Slot) (replay : ReplayView) (from : KeyBytes) (to end : Option KeyBytes) → ((key : KeyBytes) → is_below_end end key ≡ (is_below_end (high_of slot) key && is_below_end to key)) →
    T (is_sorted key_cmp replay.pairs) → IsLeafReplay slot replay → ArePairsOn slot from to replay.stamp (filter (is_pair_in_range from end) replay.pairs)
pairs_of_replay slot replay from to end ends sorted so = record {
  sorted = sorted_in_range from end replay.pairs sorted;
  values = λ key.
      pairs_now (base_of slot) (high_of slot) (writes_over slot) replay from end (λ k below. left_of _ _ (subst T (ends k) below)) so key
      ∙ ap (λ b. cond b (value_in slot key replay.stamp) None) (ap (λ b. not (is_lt (key_cmp key from)) && b) (ends key) ∙ moved (not (is_lt (key_cmp key from))) (is_below_end (high_of slot) key) (is_below_end to key));
}
  where
    moved : (a b c : Bool) → (a && (b && c)) ≡ ((a && c) && b)
    moved false b c = refl
    moved true true true = refl
    moved true true false = refl
    moved true false true = refl
    moved true false false = refl

module _ (tree : TreeView) (lawful : AreLevels tree.slots tree.root tree.levels) (distinct : HasDistinctStamps (row_writes tree.slots (row tree.levels 0))) where
  -- and which of the contents they are
  pub pairs_on_leaf : (p : ℕ) (replay : ReplayView) (from : KeyBytes) (to end : Option KeyBytes) → Contains (row tree.levels 0) p → ((key : KeyBytes) → is_below_end end key ≡ (is_below_end (high_of (slot_at tree.slots p)) key && is_below_end to key)) →
      T (is_sorted key_cmp replay.pairs) → IsLeafReplay (slot_at tree.slots p) replay → filter (is_pair_in_range from end) replay.pairs ≡ where_key key_cmp (has_key (slot_at tree.slots p)) (pairs_of_range (contents_at tree replay.stamp) from to)
  pairs_on_leaf p replay from to end has ends sorted so =
      leaf_pairs tree.slots tree.root tree.levels lawful distinct replay.stamp p from to _ has (pairs_of_replay (slot_at tree.slots p) replay from to end ends sorted so)

-- when it goes on from a key to a later one
pub record ReadNext (tree : TreeView) (all : List (KeyBytes × ValueBytes)) (most : ℕ) (read : List (KeyBytes × ValueBytes)) (from at next : KeyBytes) : Type 0 where
  pub has_read : HasRead all most read from next
  pub less : leaves_behind tree.slots tree.levels next < leaves_behind tree.slots tree.levels at

-- the pairs of a range that lie on a leaf
abbrev pub leaf_of : TreeView → ℕ → KeyBytes → Option KeyBytes → ℕ → List (KeyBytes × ValueBytes)
leaf_of tree stamp from to p = where_key key_cmp (has_key (slot_at tree.slots p)) (pairs_of_range (contents_at tree stamp) from to)

-- a scan begins where nothing was read
pub begins : (tree : TreeView) (stamp most : ℕ) (from : KeyBytes) (to : Option KeyBytes) (read : List (KeyBytes × ValueBytes)) → read ≡ [] → HasRead (pairs_of_range (contents_at tree stamp) from to) most read from from
begins tree stamp most from to read none = record { whole = []; scanning = begins_scan (contents_at tree stamp) from to; front = none ∙ sym (none_taken most) }

module _ (tree : TreeView) (lawful : AreLevels tree.slots tree.root tree.levels) (distinct : HasDistinctStamps (row_writes tree.slots (row tree.levels 0))) (stamp most : ℕ) (from : KeyBytes) (to : Option KeyBytes) where
  abbrev all_pairs : List (KeyBytes × ValueBytes)
  all_pairs = pairs_of_range (contents_at tree stamp) from to

  range_sorted : T (is_sorted key_cmp all_pairs)
  range_sorted = sorted_in_range from to (entries (contents_at tree stamp)) (entries_sorted (contents_at tree stamp))

  module _ (at : KeyBytes) (p : ℕ) (home : IsHome tree.slots tree.levels at p) (read new : List (KeyBytes × ValueBytes)) (h : HasRead all_pairs most read from at) (more : new ≡ read ++ take (most - length read) (leaf_of tree stamp at to p)) where
    abbrev passed_pairs : List (KeyBytes × ValueBytes)
    passed_pairs = h.whole ++ leaf_of tree stamp at to p

    has_passed : HasPassed tree.slots all_pairs passed_pairs p
    has_passed = passes tree.slots tree.levels (contents_at tree stamp) from at to p h.whole passed_pairs home h.scanning refl

    front : new ≡ take most passed_pairs
    front = read_more most read new h.whole (leaf_of tree stamp at to p) h.front more

    pub ends_read : Reaches (high_of (slot_at tree.slots p)) to → new ≡ take most all_pairs
    ends_read reaches = front ∙ ap (take most) (ends_scan tree.slots (contents_at tree stamp) from to p passed_pairs has_passed reaches)

    pub is_enough_read : most ≤ length new → new ≡ take most all_pairs
    is_enough_read enough = front ∙ enough_read tree.slots all_pairs passed_pairs p most has_passed range_sorted (whole_enough most new passed_pairs front enough)

    pub next_read : (end : KeyBytes) → high_of (slot_at tree.slots p) ≡ Some end → ReadNext tree all_pairs most new from at end
    next_read end ends = record {
      has_read = record {
        whole = passed_pairs;
        scanning = record {
          begins = upto_trans from at end h.scanning.begins (below_back at end (holds _ (subst (λ (o : Option KeyBytes). T (is_below_end o at)) high home.ends_above)));
          so_far = has_passed.so_far ∙ ap (λ (o : Option KeyBytes). where_key key_cmp (is_below_end o) all_pairs) (sym (ap high_of has_passed.is) ∙ ends);
        };
        front = front;
      };
      less = fewer_behind tree.slots tree.levels at end p home ends;
    }
      where
        high : home.reached.state.high ≡ Some end
        high = sym (ap high_of home.reached.is) ∙ ends

  -- where there are no pairs a scan goes on behind them
  module _ (at end : KeyBytes) (next : Option KeyBytes) (new : List (KeyBytes × ValueBytes)) (h : ReadNext tree all_pairs most new from at end) (none : HasNone tree stamp end next) (behind : Reaches next (Some end)) where
    so_far : h.has_read.whole ≡ where_key key_cmp (is_below_end next) all_pairs
    so_far = h.has_read.scanning.so_far ∙ none_between (contents_at tree stamp) from to end next none behind

    pub ends_behind : Reaches next to → new ≡ take most all_pairs
    ends_behind reaches =
        h.has_read.front
        ∙ ap (take most) (so_far ∙ all_of_those (is_below_end next) (is_in_range from to) (λ k inside. holds _ (reaches k (right_of _ _ (true_holds _ inside)))) (entries (contents_at tree stamp)))

    pub goes_behind : (later : KeyBytes) → next ≡ Some later → ReadNext tree all_pairs most new from at later
    goes_behind later is =
        record {
          has_read = record {
            whole = h.has_read.whole;
            scanning = record {
              begins = upto_trans from end later h.has_read.scanning.begins upto;
              so_far = so_far ∙ ap (λ (o : Option KeyBytes). where_key key_cmp (is_below_end o) all_pairs) is;
            };
            front = h.has_read.front;
          };
          less = omega (arith, h.less, no_more_behind tree.slots tree.levels end later upto);
        }
      where
        upto : is_lt (key_cmp later end) ≡ false
        upto = not_later end later (subst (λ (o : Option KeyBytes). Reaches o (Some end)) is behind)

-- what was read when a scan has come back to an end: the first of the pairs from the end on, the greatest key first
pub record HasReadBack (all : List (KeyBytes × ValueBytes)) (most : ℕ) (read : List (KeyBytes × ValueBytes)) (from : KeyBytes) (to end : Option KeyBytes) : Type 0 where
  pub whole : List (KeyBytes × ValueBytes)
  pub scanning : ScanningBack all whole from to end
  pub front : read ≡ take most whole

-- when it has read a leaf that begins at a key
pub record IsBack (tree : TreeView) (stamp most : ℕ) (from : KeyBytes) (to end : Option KeyBytes) (low : KeyBytes) (new : List (KeyBytes × ValueBytes)) : Type 0 where
  pub whole : List (KeyBytes × ValueBytes)
  pub passed : PassedBack tree.slots tree.levels (contents_at tree stamp) from to end low whole
  pub front : new ≡ take most whole

module _ (tree : TreeView) (stamp most : ℕ) (from : KeyBytes) (to : Option KeyBytes) where
  abbrev range_pairs : List (KeyBytes × ValueBytes)
  range_pairs = pairs_of_range (contents_at tree stamp) from to

  pub begins_at_end : (read : List (KeyBytes × ValueBytes)) → read ≡ [] → T (is_below_end to from) → HasReadBack range_pairs most read from to to
  begins_at_end read none starts = record { whole = []; scanning = begins_back (contents_at tree stamp) from to [] refl starts; front = none ∙ sym (none_taken most) }

  pub is_back : (low : KeyBytes) (end : Option KeyBytes) (p : ℕ) (read new : List (KeyBytes × ValueBytes)) → IsBefore tree.slots tree.levels end p → HasReadBack range_pairs most read from to end →
      new ≡ read ++ take (most - length read) (reverse (leaf_of tree stamp from end p)) → low ≡ low_of (slot_at tree.slots p) → IsBack tree stamp most from to end low new
  is_back low end p read new before h more is =
      let piece = reverse (leaf_of tree stamp from end p) in
      record {
        whole = h.whole ++ piece;
        passed = passed_back tree.slots tree.levels (contents_at tree stamp) from low to end p h.whole (h.whole ++ piece) before h.scanning refl is;
        front = read_more most read new h.whole piece h.front more;
      }

  -- or before that, where no pairs are in between
  pub skips_back : (low before : KeyBytes) (end : Option KeyBytes) (new : List (KeyBytes × ValueBytes)) → IsBack tree stamp most from to end low new → HasNone tree stamp before (Some low) → is_lt (key_cmp low before) ≡ false → IsBack tree stamp most from to end before new
  skips_back low before end new b none upto = record {
    whole = b.whole;
    passed = record {
      so_far = b.passed.so_far ∙ ap reverse (none_before (contents_at tree stamp) from to before low none upto);
      starts = upto_end end before low upto b.passed.starts;
      less = omega (arith, b.passed.less, no_more_before tree.slots tree.levels low before upto);
    };
    front = b.front;
  }

  pub ends_at_leaf : (low : KeyBytes) (end : Option KeyBytes) (new : List (KeyBytes × ValueBytes)) → IsBack tree stamp most from to end low new → is_lt (key_cmp from low) ≡ false → new ≡ take most (reverse range_pairs)
  ends_at_leaf low end new b upto = b.front ∙ ends_back (contents_at tree stamp) from low to most b.whole b.passed.so_far upto

  pub enough_at_leaf : (low : KeyBytes) (end : Option KeyBytes) (new : List (KeyBytes × ValueBytes)) → IsBack tree stamp most from to end low new → most ≤ length new → new ≡ take most (reverse range_pairs)
  enough_at_leaf low end new b enough = b.front ∙ enough_back (contents_at tree stamp) from low to most b.whole b.passed.so_far (whole_enough most new b.whole b.front enough)

  pub goes_before : (low : KeyBytes) (end : Option KeyBytes) (read new : List (KeyBytes × ValueBytes)) → HasReadBack range_pairs most read from to end → IsBack tree stamp most from to end low new → is_lt (key_cmp from low) ≡ true → HasReadBack range_pairs most new from to (Some low)
  goes_before low end read new h b above = record {
    whole = b.whole;
    scanning = goes_back (contents_at tree stamp) from low to end h.whole b.whole h.scanning b.passed.starts above b.passed.so_far;
    front = b.front;
  }

module _ {V : Type 0} (IsSo : ℕ → V → Type 0) (old new : kept.BTreeMap ℕ V) where
  -- what is kept for pages, when what is kept for one is taken out
  pub kept_without : (p : ℕ) → kept.Updates nat_cmp old new p None → AreEach IsSo old → AreEach IsSo new
  kept_without p taken so q one is = by (is_eq (nat_cmp p q)) refl (sym (taken.0 q) ∙ is)
    where
      nothing : None ≡ Some one → ⊥
      nothing e = cc

      by : (b : Bool) → is_eq (nat_cmp p q) ≡ b → cond b None (kept.get nat_cmp old q) ≡ Some one → IsSo q one
      by true tie e = absurd (nothing e)
      by false tie e = so q one e

  -- and when something is put in
  pub kept_with : (p : ℕ) (given : V) → kept.Updates nat_cmp old new p (Some given) → IsSo p given → AreEach IsSo old → AreEach IsSo new
  kept_with p given put good so q one is = by (is_eq (nat_cmp p q)) refl (sym (put.0 q) ∙ is)
    where
      same : Some given ≡ Some one → given ≡ one
      same e = cc

      tied : (o : Ordering) → is_eq o ≡ true → o ≡ Equal
      tied Less e = cc
      tied Equal e = refl
      tied Greater e = cc

      by : (b : Bool) → is_eq (nat_cmp p q) ≡ b → cond b (Some given) (kept.get nat_cmp old q) ≡ Some one → IsSo q one
      by true tie e = subst (IsSo q) (same e) (subst (λ n. IsSo n given) (nat_cmp-IsAntisymmetric p q (tied (nat_cmp p q) tie)) good)
      by false tie e = so q one e

  -- and where nothing changed
  pub kept_same : kept.IsUnchanged old new → AreEach IsSo old → AreEach IsSo new
  kept_same same so q one is = so q one (ap (λ (es : List (ℕ × V)). lookup (kept.is_at (nat_cmp q)) es) (sym same) ∙ is)

module _ (tree : TreeView) (lawful : AreLevels tree.slots tree.root tree.levels) (p : ℕ) (leaf : ReadLeaf) (is_kept : IsKept tree p leaf) where
  in_row : InRow tree.slots 0 (row tree.levels 0) is_kept.in_level.0 p
  in_row = leaf_in_row tree.slots tree.root tree.levels lawful p is_kept.in_level

  low_is : leaf.low.now ≡ in_row.stands.state.low
  low_is = is_kept.read.low ∙ ap low_of in_row.stands.is

  end_is : option_copied leaf.end ≡ in_row.stands.state.high
  end_is = is_kept.read.end ∙ ap high_of in_row.stands.is

  -- a leaf that is kept is the home of the keys of its range
  pub kept_home : (key : KeyBytes) → is_lt (key_cmp key leaf.low.now) ≡ false → T (is_below_end (option_copied leaf.end) key) → IsHome tree.slots tree.levels key p
  kept_home key upto below = record {
    reached = record {
      within = lawful.some;
      in_level = is_kept.in_level;
      state = in_row.stands.state;
      is = in_row.stands.is;
      from_low = subst (λ (k : KeyBytes). IsUpto k key) low_is (subst (λ b. T (not b)) (sym upto) tt);
    };
    ends_above = subst (λ (o : Option KeyBytes). T (is_below_end o key)) end_is below;
  }

  -- and the one before the ends that it begins below and reaches
  pub kept_before : (end : Option KeyBytes) → T (is_below_end end leaf.low.now) → Reaches (option_copied leaf.end) end → IsBefore tree.slots tree.levels end p
  kept_before end starts reaches = record {
    in_level = is_kept.in_level;
    state = in_row.stands.state;
    is = in_row.stands.is;
    starts = subst (λ (k : KeyBytes). T (is_below_end end k)) low_is starts;
    reaches = subst (λ (o : Option KeyBytes). Reaches o end) end_is reaches;
  }

  -- where it has no pair, the tree has none in its range
  pub none_on_leaf : HomesHoldAll tree → (until : ℕ) → StaysUntil leaf.replay until → ((key : KeyBytes) → T (is_in_range leaf.low.now (option_copied leaf.end) key) → find key_cmp key leaf.replay.pairs ≡ None) →
      (stamp : ℕ) → leaf.replay.stamp ≤ stamp → stamp ≤ until → HasNone tree stamp leaf.low.now (option_copied leaf.end)
  none_on_leaf values until stays none stamp le upto key inside =
      let below = right_of _ _ inside in
      values key p stamp (kept_home key (holds_not _ (left_of _ _ inside)) below)
      ∙ sym (is_kept.read.replay.values key stamp (subst (λ (o : Option KeyBytes). T (is_below_end o key)) is_kept.read.end below) le)
      ∙ stays key stamp le upto ∙ none key inside
