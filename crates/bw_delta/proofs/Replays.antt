-- A replay at a later stamp, and what its pairs are.
use Rattle.std.proofs.Common.{◌≡◌, ℕ, zero, suc, ◌+◌, ◌<◌, ◌≤◌, Ordering, Bool, true, false, cond, not, ◌&&◌, T, List, [], ◌∷◌, ◌++◌, drop, length, take, nat_le, Option, Some, None, refl, sym, ap, ◌∙◌, subst, arith}
use Rattle.std.proofs.lemmas.List.{length-take, take-append-le}
use Rattle.std.specs.Prelude.{filter, slice_get}
use Rattle.std.specs.Borrow.{Bor}
use Rattle.std.specs.List.{list_all}
use Rattle.std.specs.Ordering.{is_gt, is_le, is_lt, ordering_reverse}
use Rattle.std.specs.BTreeMap.Range.{entries_between}
use Rattle.std.specs.declared.cmp.Ordering.TheVariants.{Less, Equal, Greater}
use Rattle.std.specs.declared.ops.Bound.TheVariants.{Included, Excluded, Unbounded}
use Rattle.std.specs.FinMap.{find}
use Rattle.bw_key.specs.Order.{KeyBytes, key_cmp, key_cmp_total, key_eq}
use Rattle.bw_model.specs.Contents.{is_below_end, is_in_range, is_pair_in_range}
use Rattle.bw_model.specs.Values.{ValueBytes}
use Rattle.bw_page.proofs.Truths.{both_of, holds, true_holds}
use Rattle.bw_page.proofs.KeyLemmas.{below_trans}
use Rattle.bw_delta.specs.Writes.{WriteView}
use Rattle.bw_delta.specs.History.{history, action_at, pointed_to}
use Rattle.bw_delta.specs.Batches.{writes_to}
use Rattle.bw_delta.specs.Readings.{from_stamp}
use Rattle.bw_delta.specs.Replays.{ReplayView, IsReplayOf, StaysUntil, replayed_value}
use Rattle.bw_delta.specs.Rising.{HasRisingStamps}
use Rattle.bw_delta.proofs.Batches.{rising_filter}
use Rattle.bw_delta.proofs.Histories.{none_below, quiet}
use Rattle.bw_delta.proofs.PairMaps.{find_in_range, only_inside}
use Rattle.bw_delta.proofs.Readings.{left_rises, resumed}

-- two tests in either order
swapped : {X : Type 0} (p q : X → Bool) (xs : List X) → filter p (filter q xs) ≡ filter q (filter p xs)
swapped p q [] = refl
swapped p q (x ∷ xs) = by (p x) (q x) refl refl (swapped p q xs)
  where
    by : (a b : Bool) → p x ≡ a → q x ≡ b → filter p (filter q xs) ≡ filter q (filter p xs) → filter p (cond b (x ∷ filter q xs) (filter q xs)) ≡ filter q (cond a (x ∷ filter p xs) (filter p xs))
    by true true e f rest =
        ap (λ t. cond t (x ∷ filter p (filter q xs)) (filter p (filter q xs))) e ∙ ap (λ (l : List _). x ∷ l) rest
        ∙ sym (ap (λ t. cond t (x ∷ filter q (filter p xs)) (filter q (filter p xs))) f)
    by true false e f rest = rest ∙ sym (ap (λ t. cond t (x ∷ filter q (filter p xs)) (filter q (filter p xs))) f)
    by false true e f rest = ap (λ t. cond t (x ∷ filter p (filter q xs)) (filter p (filter q xs))) e ∙ rest
    by false false e f rest = rest

-- no key is below the empty one
pub none_below_least : (key : KeyBytes) → is_lt (key_cmp key []) ≡ false
none_below_least [] = refl
none_below_least (b ∷ key) = refl

-- so each key below an end is from the empty one on
pub from_least : (high : Option KeyBytes) (low key : KeyBytes) → low ≡ [] → T (is_below_end high key) → is_in_range low high key ≡ true
from_least high low key least below =
    ap (λ (l : KeyBytes). not (is_lt (key_cmp key l)) && is_below_end high key) least
    ∙ ap (λ b. not b && is_below_end high key) (none_below_least key) ∙ holds _ below

pub all_from_least : {V : Type 0} (es : List (KeyBytes × V)) → T (list_all (is_pair_in_range [] None) es)
all_from_least [] = tt
all_from_least (e ∷ es) = both_of _ _ (true_holds _ (from_least None [] e.0 refl tt)) (all_from_least es)

-- each key is in the range of all keys
pub all_in_range : {V : Type 0} (es : List (KeyBytes × V)) → filter (is_pair_in_range [] None) es ≡ es
all_in_range [] = refl
all_in_range (e ∷ es) =
    ap (λ b. cond b (e ∷ filter (is_pair_in_range [] None) es) (filter (is_pair_in_range [] None) es)) (holds _ (true_holds _ (from_least None [] e.0 refl tt)))
    ∙ ap (λ l. e ∷ l) (all_in_range es)

-- of fewer than the most that were asked for none is missing
pub all_found : {X : Type 0} (most : ℕ) (found xs : List X) → found ≡ take most xs → length found < most → found ≡ xs
all_found most found xs is few = is ∙ first_all most xs (subst (λ l. length l < most) is few)
  where
    first_all : {X : Type 0} (most : ℕ) (xs : List X) → length (take most xs) < most → take most xs ≡ xs
    first_all zero xs lt = absurd (omega (arith, lt))
    first_all (suc most) [] lt = refl
    first_all (suc most) (x ∷ xs) lt = ap (λ l. x ∷ l) (first_all most xs (omega (arith, lt)))

module _ (start : KeyBytes → Option ValueBytes) (high : Option KeyBytes) (writes : List WriteView) where
  -- a replay that went on to a later stamp
  pub goes_on : (r s : ReplayView) → r.stamp ≤ s.stamp → ((key : KeyBytes) → find key_cmp key s.pairs ≡ replayed_value r s.stamp key) → s.rest ≡ from_stamp s.stamp r.rest →
      IsReplayOf start high writes r → IsReplayOf start high writes s
  goes_on r s later pairs rest so = record {
    rising = subst (HasRisingStamps s.stamp) (sym rest) (left_rises s.stamp r.stamp r.rest so.rising);
    values = λ key stamp below le.
        let here = writes_to key r.rest in
        ap (λ v. history v (action_at (writes_to key s.rest)) stamp) (pairs key)
        ∙ ap (λ (l : List WriteView). history (replayed_value r s.stamp key) (action_at l) stamp) (ap (writes_to key) rest ∙ swapped (λ w. key_eq key w.key) (λ w. nat_le s.stamp w.stamp) r.rest)
        ∙ resumed (find key_cmp key r.pairs) r.stamp here s.stamp stamp (rising_filter (λ w. key_eq key w.key) r.stamp r.rest so.rising) le
        ∙ so.values key stamp below (omega (arith, later, le));
  }

  -- the value at a key as of its stamp
  abbrev pub value_now : ReplayView → KeyBytes → Option ValueBytes
  value_now r key = history (start key) (action_at (writes_to key writes)) r.stamp

  -- its pairs below a lower end
  pub pairs_now : (r : ReplayView) (low : KeyBytes) (to : Option KeyBytes) → ((key : KeyBytes) → T (is_below_end to key) → T (is_below_end high key)) →
      IsReplayOf start high writes r → (key : KeyBytes) → find key_cmp key (filter (is_pair_in_range low to) r.pairs) ≡ cond (is_in_range low to key) (value_now r key) None
  pairs_now r low to lower so key = find_in_range low to key r.pairs ∙ only_inside (is_in_range low to key) _ _ (λ inside. latest key (lower key (below (not (is_lt (key_cmp key low))) _ inside)))
    where
      below : (a b : Bool) → (a && b) ≡ true → T b
      below true true e = tt
      below true false e = absurd (different e)
        where
          different : false ≡ true → ⊥
          different e = cc
      below false b e = absurd (different e)
        where
          different : false ≡ true → ⊥
          different e = cc

      latest : (key : KeyBytes) → T (is_below_end high key) → find key_cmp key r.pairs ≡ value_now r key
      latest key inside =
          let here = writes_to key r.rest in
          sym (quiet (find key_cmp key r.pairs) (action_at here) r.stamp (λ t lt. none_below r.stamp here t (rising_filter (λ w. key_eq key w.key) r.stamp r.rest so.rising) lt))
          ∙ so.values key r.stamp inside (omega arith)

-- before the first write that is left nothing changes
pub stays : (replay : ReplayView) (until : ℕ) → HasRisingStamps until replay.rest → StaysUntil replay until
stays replay until rising key stamp le upto =
    quiet (find key_cmp key replay.pairs) (action_at (writes_to key replay.rest)) stamp
    (λ t lt. none_below until (writes_to key replay.rest) t (rising_filter (λ w. key_eq key w.key) until replay.rest rising) (omega (arith, lt, upto)))

-- which is the one with the least stamp
pub rises_from_first : (low : ℕ) (ws : List (Bor WriteView)) (w : Bor WriteView) → slice_get ws 0 ≡ Some w → HasRisingStamps low (pointed_to ws) → HasRisingStamps w.now.stamp (pointed_to ws)
rises_from_first low [] w e rising = absurd (none e)
  where
    none : None ≡ Some w → ⊥
    none e = cc
rises_from_first low (x ∷ xs) w e rising = subst (λ (v : Bor WriteView). HasRisingStamps v.now.stamp (pointed_to (x ∷ xs))) (one e) (omega arith, rising.1)
  where
    one : Some x ≡ Some w → x ≡ w
    one e = cc

pub rises_where_none : (until : ℕ) (ws : List (Bor WriteView)) → slice_get ws 0 ≡ None → HasRisingStamps until (pointed_to ws)
rises_where_none until [] e = tt
rises_where_none until (x ∷ xs) e = absurd (some e)
  where
    some : Some x ≡ None → ⊥
    some e = cc

le_or_below : (a b : KeyBytes) → is_le (key_cmp a b) ≡ not (is_lt (key_cmp b a))
le_or_below a b = ap is_le (key_cmp_total.antisymm a b) ∙ turned (key_cmp b a)
  where
    turned : (o : Ordering) → is_le (ordering_reverse o) ≡ not (is_lt o)
    turned Less = refl
    turned Equal = refl
    turned Greater = refl

-- an end that isn't below the first key is forward of it
pub is_forward : (low end : KeyBytes) → is_lt (key_cmp end low) ≡ false → is_gt (key_cmp low end) ≡ false
is_forward low end e = ap is_gt (key_cmp_total.antisymm low end) ∙ turned (key_cmp end low) ∙ e
  where
    turned : (o : Ordering) → is_gt (ordering_reverse o) ≡ is_lt o
    turned Less = refl
    turned Equal = refl
    turned Greater = refl

same_filter : {X : Type 0} (p q : X → Bool) (xs : List X) → ((x : X) → p x ≡ q x) → filter p xs ≡ filter q xs
same_filter p q [] same = refl
same_filter p q (x ∷ xs) same = ap (λ b. cond b (x ∷ filter p xs) (filter p xs)) (same x) ∙ ap (λ (l : List _). cond (q x) (x ∷ l) l) (same_filter p q xs same)

-- the entries between two bounds are the pairs of the range
pub between_all : {V : Type 0} (low : KeyBytes) (es : List (KeyBytes × V)) → entries_between key_cmp (Included low) Unbounded es ≡ filter (is_pair_in_range low None) es
between_all low es = same_filter _ _ es (λ e. ap (λ b. b && true) (le_or_below low e.0))

pub between_ends : {V : Type 0} (low high : KeyBytes) (es : List (KeyBytes × V)) → entries_between key_cmp (Included low) (Excluded high) es ≡ filter (is_pair_in_range low (Some high)) es
between_ends low high es = same_filter _ _ es (λ e.
    ap (λ b. b && not (is_le (key_cmp high e.0))) (le_or_below low e.0)
    ∙ ap (λ b. not (is_lt (key_cmp e.0 low)) && b) (ap not (le_or_below high e.0) ∙ twice (is_lt (key_cmp e.0 high))))
  where
    twice : (b : Bool) → not (not b) ≡ b
    twice true = refl
    twice false = refl

-- a range that ends below its first key is empty, as is one that ends there
pub between_none : {V : Type 0} (low high : KeyBytes) (es : List (KeyBytes × V)) → is_lt (key_cmp high low) ≡ true → filter (is_pair_in_range low (Some low)) es ≡ filter (is_pair_in_range low (Some high)) es
between_none low high es lower = same_filter _ _ es (λ e. by e.0 (is_lt (key_cmp e.0 low)) (is_lt (key_cmp e.0 high)) refl refl)
  where
    different : true ≡ false → ⊥
    different e = cc

    by : (k : KeyBytes) (a b : Bool) → is_lt (key_cmp k low) ≡ a → is_lt (key_cmp k high) ≡ b → (not a && a) ≡ (not a && b)
    by k true b e f = refl
    by k false false e f = refl
    by k false true e f = absurd (different (sym (below_trans k high low f lower) ∙ e))

-- what stood in front stays there
pub kept_before : {X : Type 0} (old taken more : List X) → take (length old) taken ≡ old → take (length old) (taken ++ more) ≡ old
kept_before old taken more kept = take-append-le (length old) taken more (omega (arith, length-take (length old) taken, ap length kept)) ∙ kept

drop_none : {X : Type 0} (n : ℕ) → drop {A = X} n [] ≡ []
drop_none zero = refl
drop_none (suc n) = refl

pub drop_more : {X : Type 0} (m n : ℕ) (xs : List X) → drop (m + n) xs ≡ drop n (drop m xs)
drop_more zero n xs = ap (λ k. drop k xs) (none n)
  where
    none : (n : ℕ) → 0 + n ≡ n
    none n = omega arith
drop_more (suc m) n [] = drop_none (suc m + n) ∙ sym (drop_none n)
drop_more (suc m) n (x ∷ xs) = ap (λ k. drop k (x ∷ xs)) (more m n) ∙ drop_more m n xs
  where
    more : (m n : ℕ) → suc m + n ≡ suc (m + n)
    more m n = omega arith
