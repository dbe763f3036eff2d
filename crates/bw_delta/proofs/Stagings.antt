-- The writes of a batch put before earlier ones.
use Rattle.std.proofs.Common.{◌≡◌, ℕ, zero, suc, ◌+◌, ◌<◌, ◌≤◌, Bool, true, false, cond, List, [], ◌∷◌, ◌++◌, length, map, take, get_or, nat_eq, Option, Some, None, refl, sym, ap, ◌∙◌, arith, add-one}
use Rattle.std.specs.List.{AllByRecursion, IsDistinct}
use Rattle.std.proofs.lemmas.Bool.Decides.{nat_tests}
use Rattle.std.proofs.lemmas.List.Elements.{filter-append}
use Rattle.std.proofs.lemmas.Map.Keys.{IsDistinct-cons}
use Rattle.bw_key.specs.Order.{KeyBytes, key_eq}
use Rattle.bw_model.specs.Contents.{Contents}
use Rattle.bw_model.specs.Values.{ValueBytes}
use Rattle.bw_model.specs.Model.{contents_after}
use Rattle.bw_model.specs.declared.operations.Action.{Action}
use Rattle.bw_model.specs.declared.operations.Op.{Op}
use Rattle.bw_delta.specs.Writes.{WriteView}
use Rattle.bw_delta.specs.History.{action_at, HasDistinctStamps}
use Rattle.bw_delta.specs.Rising.{HasRisingStamps}
use Rattle.bw_delta.specs.Batches.{write_of, stamped, writes_of, writes_to}
use Rattle.bw_delta.specs.ContentsAsOf.{contents_as_of, HoldsBatch}
use Rattle.bw_delta.proofs.Histories.{past_other, none_below}
use Rattle.bw_delta.proofs.Batches.{rising_batch, rising_filter}
use Rattle.bw_delta.proofs.ContentsAsOf.{same_as_of, batch_is_read_in_turn}

-- the writes of one operation more
pub writes_further : (n : ℕ) (ops : List Op) (i : ℕ) (op : Op) → i < length ops → op ≡ get_or ops i op → writes_of n (take (i + 1) ops) ≡ writes_of n (take i ops) ++ stamped (n + i) (write_of op)
writes_further n ops i op lt is = rw add-one (go n ops i lt is)
  where
    stays : (n : ℕ) → n ≡ n + 0
    stays n = omega arith

    next : (n i : ℕ) → n + 1 + i ≡ n + suc i
    next n i = omega arith

    ends : (ws : List WriteView) → ws ++ [] ≡ ws
    ends [] = refl
    ends (w ∷ ws) = ap (λ l. w ∷ l) (ends ws)

    parted : (xs ys zs : List WriteView) → xs ++ (ys ++ zs) ≡ (xs ++ ys) ++ zs
    parted [] ys zs = refl
    parted (x ∷ xs) ys zs = ap (λ l. x ∷ l) (parted xs ys zs)

    go : (n : ℕ) (ops : List Op) (i : ℕ) → i < length ops → op ≡ get_or ops i op → writes_of n (take (suc i) ops) ≡ writes_of n (take i ops) ++ stamped (n + i) (write_of op)
    go n [] i lt is = absurd (omega arith)
    go n (o ∷ ops) zero lt is = ends (stamped n (write_of o)) ∙ ap (λ (x : Op). stamped n (write_of x)) (sym is) ∙ ap (λ (m : ℕ). stamped m (write_of op)) (stays n)
    go n (o ∷ ops) (suc i) lt is =
        ap (λ l. stamped n (write_of o) ++ l) (go (n + 1) ops i (omega arith) is)
        ∙ parted (stamped n (write_of o)) (writes_of (n + 1) (take i ops)) (stamped (n + 1 + i) (write_of op))
        ∙ ap (λ (m : ℕ). (stamped n (write_of o) ++ writes_of (n + 1) (take i ops)) ++ stamped m (write_of op)) (next n i)

abbrev pub AreBelow : ℕ → List WriteView → Type 0
AreBelow n ws = AllByRecursion (λ w. w.stamp < n) ws

differs : (m n : ℕ) → m < n → nat_eq m n ≡ false
differs m n lt = grind (arith, nat_tests)

differs_back : (m n : ℕ) → n < m → nat_eq m n ≡ false
differs_back m n lt = grind (arith, nat_tests)

apart_above : (s low : ℕ) (ws : List WriteView) → s < low → HasRisingStamps low ws → AllByRecursion (λ y. nat_eq s y ≡ false) (map (λ (v : WriteView). v.stamp) ws)
apart_above s low [] lt rising = tt
apart_above s low (v ∷ ws) lt rising = (differs s v.stamp (omega (arith, lt, rising.0)), apart_above s (v.stamp + 1) ws (omega (arith, lt, rising.0)) rising.1)

apart_below : (s n : ℕ) (ws : List WriteView) → n ≤ s → AreBelow n ws → AllByRecursion (λ y. nat_eq s y ≡ false) (map (λ (v : WriteView). v.stamp) ws)
apart_below s n [] le below = tt
apart_below s n (v ∷ ws) le below = (differs_back s v.stamp (omega (arith, le, below.0)), apart_below s n ws le below.1)

apart_both : (s : ℕ) (xs ys : List WriteView) → AllByRecursion (λ y. nat_eq s y ≡ false) (map (λ (v : WriteView). v.stamp) xs) → AllByRecursion (λ y. nat_eq s y ≡ false) (map (λ (v : WriteView). v.stamp) ys) →
    AllByRecursion (λ y. nat_eq s y ≡ false) (map (λ (v : WriteView). v.stamp) (xs ++ ys))
apart_both s [] ys a b = b
apart_both s (x ∷ xs) ys a b = (a.0, apart_both s xs ys a.1 b)

-- stamps that rise are distinct
pub rising_distinct : (low : ℕ) (ws : List WriteView) → HasRisingStamps low ws → HasDistinctStamps ws
unfolding IsDistinct
rising_distinct low [] rising = tt
rising_distinct low (w ∷ ws) rising = IsDistinct-cons nat_eq w.stamp (map (λ (v : WriteView). v.stamp) ws) (apart_above w.stamp (w.stamp + 1) ws (omega arith) rising.1) (rising_distinct (w.stamp + 1) ws rising.1)

-- later writes before earlier ones have stamps of their own
pub distinct_over : (n low : ℕ) (ws old : List WriteView) → n ≤ low → HasRisingStamps low ws → AreBelow n old → HasDistinctStamps old → HasDistinctStamps (ws ++ old)
distinct_over n low [] old le rising below distinct = distinct
distinct_over n low (w ∷ ws) old le rising below distinct =
    IsDistinct-cons nat_eq w.stamp (map (λ (v : WriteView). v.stamp) (ws ++ old))
    (apart_both w.stamp ws old (apart_above w.stamp (w.stamp + 1) ws (omega arith) rising.1) (apart_below w.stamp n old (omega (arith, le, rising.0)) below))
    (distinct_over n (w.stamp + 1) ws old (omega (arith, le, rising.0)) rising.1 below distinct)

pub below_all : (n m : ℕ) (ws : List WriteView) → n ≤ m → AreBelow n ws → AreBelow m ws
below_all n m [] le below = tt
below_all n m (w ∷ ws) le below = (omega (arith, le, below.0), below_all n m ws le below.1)

-- the stamps of a batch
pub batch_below : (n m : ℕ) (ops : List Op) → n + length ops ≤ m → AreBelow m (writes_of n ops)
batch_below n m [] le = tt
batch_below n m (op ∷ ops) le = by (write_of op) (batch_below (n + 1) m ops (omega (arith, le)))
  where
    by : (w : Option (KeyBytes × Action)) → AreBelow m (writes_of (n + 1) ops) → AreBelow m (stamped n w ++ writes_of (n + 1) ops)
    by None rest = rest
    by (Some w) rest = (omega (arith, le), rest)

none_past : (n t : ℕ) (ws : List WriteView) → AreBelow n ws → n ≤ t → action_at ws t ≡ None
none_past n t [] below le = refl
none_past n t (w ∷ ws) below le = past_other w ws t (λ e. absurd (omega (arith, below.0, le, e))) ∙ none_past n t ws below.1 le

below_filter : (key : KeyBytes) (n : ℕ) (ws : List WriteView) → AreBelow n ws → AreBelow n (writes_to key ws)
below_filter key n [] below = tt
below_filter key n (w ∷ ws) below = by (key_eq key w.key) (below_filter key n ws below.1)
  where
    by : (b : Bool) → AreBelow n (writes_to key ws) → AreBelow n (cond b (w ∷ writes_to key ws) (writes_to key ws))
    by true rest = (below.0, rest)
    by false rest = rest

-- what was written with a stamp, in two lists of which one has nothing with it
in_second : (xs ys : List WriteView) (t : ℕ) → action_at xs t ≡ None → action_at (xs ++ ys) t ≡ action_at ys t
in_second [] ys t none = refl
in_second (x ∷ xs) ys t none = elim (nat_eq x.stamp t) as (λ b. cond b (Some x.action) (action_at xs t) ≡ None → cond b (Some x.action) (action_at (xs ++ ys) t) ≡ action_at ys t) [
  | true ↦ λ e. absurd (different e)
  | false ↦ λ e. in_second xs ys t e
] none
  where
    different : Some x.action ≡ None → ⊥
    different e = cc

in_first : (xs ys : List WriteView) (t : ℕ) → action_at ys t ≡ None → action_at (xs ++ ys) t ≡ action_at xs t
in_first [] ys t none = none
in_first (x ∷ xs) ys t none = ap (λ o. cond (nat_eq x.stamp t) (Some x.action) o) (in_first xs ys t none)

parted : (key : KeyBytes) (xs ys : List WriteView) → writes_to key (xs ++ ys) ≡ writes_to key xs ++ writes_to key ys
parted key xs ys = filter-append (λ (w : WriteView). key_eq key w.key) xs ys

module _ (old : List WriteView) (base : ℕ) (ops : List Op) (distinct : HasDistinctStamps old) (below : AreBelow base old) where
  pub over_distinct : HasDistinctStamps (writes_of base ops ++ old)
  over_distinct = distinct_over base base (writes_of base ops) old (omega arith) (rising_batch base ops) below distinct

  -- the batch's writes are those with its stamps
  pub over_holds : HoldsBatch base ops (writes_of base ops ++ old)
  over_holds = record {
    distinct = over_distinct;
    same = λ key stamp le.
        ap (λ l. action_at l stamp) (parted key (writes_of base ops) old)
        ∙ in_first (writes_to key (writes_of base ops)) (writes_to key old) stamp (none_past base stamp (writes_to key old) (below_filter key base old below) le);
  }

  -- below its stamps nothing is changed
  over_before : (start : Contents ValueBytes) → contents_as_of start (writes_of base ops ++ old) base ≡ contents_as_of start old base
  over_before start =
      same_as_of start (writes_of base ops ++ old) old base over_distinct distinct (λ key t lt.
      ap (λ l. action_at l t) (parted key (writes_of base ops) old)
      ∙ in_second (writes_to key (writes_of base ops)) (writes_to key old) t (none_below base (writes_to key (writes_of base ops)) t (rising_filter (λ w. key_eq key w.key) base (writes_of base ops) (rising_batch base ops)) lt))

  -- as of the stamp of an operation it is the map before the operation
  pub over_read : (start : Contents ValueBytes) (i : ℕ) → contents_as_of start (writes_of base ops ++ old) (base + i) ≡ contents_after (take i ops) (contents_as_of start old base)
  over_read start i = batch_is_read_in_turn start (writes_of base ops ++ old) base ops i over_holds ∙ ap (contents_after (take i ops)) (over_before start)
