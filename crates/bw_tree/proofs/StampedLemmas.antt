-- Writes of a batch whose stamps are all different, in whatever order.
use Rattle.std.proofs.Common.{◌≡◌, ◌≢◌, ℕ, zero, suc, ◌+◌, ◌<◌, ◌≤◌, false, List, [], ◌∷◌, ◌++◌, length, map, take, nat_eq, Some, None, refl, sym, ap, ◌∙◌, arith}
use Rattle.std.proofs.lemmas.Bool.Decides.{nat_tests}
use Rattle.std.proofs.lemmas.List.Elements.{All-from_recursion, recursion_from_All}
use Rattle.std.proofs.lemmas.List.Sorted.{All-permutation, IsPermutation-append_left}
use Rattle.std.proofs.lemmas.Map.Keys.{IsDistinct-cons, IsDistinct-head}
use Rattle.std.specs.List.{AllByRecursion}
use Rattle.std.specs.List.Sorted.{IsPermutation}
use Rattle.std.specs.Prelude.{slice_get}
use Rattle.bw_key.specs.Order.{key_eq}
use Rattle.bw_model.specs.Contents.{Contents}
use Rattle.bw_model.specs.Model.{contents_after}
use Rattle.bw_model.specs.Values.{ValueBytes}
use Rattle.bw_model.specs.declared.operations.Op.{Op}
use Rattle.bw_delta.specs.Batches.{writes_of}
use Rattle.bw_delta.specs.ContentsAsOf.{contents_as_of}
use Rattle.bw_delta.specs.History.{HasDistinctStamps}
use Rattle.bw_delta.specs.Rising.{HasRisingStamps}
use Rattle.bw_delta.specs.Writes.{WriteView}
use Rattle.bw_delta.proofs.Batches.{rising_batch}
use Rattle.bw_delta.proofs.ContentsAsOf.{same_as_of}
use Rattle.bw_delta.proofs.Filters.{same_filtered}
use Rattle.bw_delta.proofs.Orders.{distinct_permuted, distinct_rest}
use Rattle.bw_delta.proofs.Stagings.{AreBelow, batch_below, over_distinct, over_read, rising_distinct}
use Rattle.bw_look.specs.Trees.{AreStampedFrom}

no_write : {w : WriteView} → None ≡ Some w → ⊥
no_write e = cc

one_write : {v w : WriteView} → Some v ≡ Some w → v ≡ w
one_write e = cc

flips : (x y : ℕ) → nat_eq x y ≡ nat_eq y x
flips x y = grind (arith, nat_tests)

other_at : (s : ℕ) (ws : List WriteView) (j : ℕ) (w : WriteView) → AllByRecursion (λ y. nat_eq s y ≡ false) (map (λ (v : WriteView). v.stamp) ws) → slice_get ws j ≡ Some w → nat_eq s w.stamp ≡ false
other_at s [] j w apart e = absurd (no_write e)
other_at s (v ∷ ws) zero w apart e = ap (λ (x : WriteView). nat_eq s x.stamp) (sym (one_write e)) ∙ apart.0
other_at s (v ∷ ws) (suc j) w apart e = other_at s ws j w apart.1 e

-- the writes at two places have two stamps
pub stamps_differ : (ws : List WriteView) (i j : ℕ) (v w : WriteView) → HasDistinctStamps ws → slice_get ws i ≡ Some v → slice_get ws j ≡ Some w → i ≢ j → nat_eq v.stamp w.stamp ≡ false
stamps_differ [] i j v w distinct e f other = absurd (no_write e)
stamps_differ (x ∷ ws) zero zero v w distinct e f other = absurd (other refl)
stamps_differ (x ∷ ws) zero (suc j) v w distinct e f other =
    ap (λ (y : WriteView). nat_eq y.stamp w.stamp) (sym (one_write e))
    ∙ other_at x.stamp ws j w (IsDistinct-head nat_eq x.stamp (map (λ (y : WriteView). y.stamp) ws) distinct) f
stamps_differ (x ∷ ws) (suc i) zero v w distinct e f other =
    flips v.stamp w.stamp ∙ ap (λ (y : WriteView). nat_eq y.stamp v.stamp) (sym (one_write f))
    ∙ other_at x.stamp ws i v (IsDistinct-head nat_eq x.stamp (map (λ (y : WriteView). y.stamp) ws) distinct) e
stamps_differ (x ∷ ws) (suc i) (suc j) v w distinct e f other = stamps_differ ws i j v w (distinct_rest x ws distinct) e f (λ same. other (ap suc same))

apart_past : (s low : ℕ) (ws : List WriteView) → low ≤ s → AreBelow low ws → AllByRecursion (λ y. nat_eq s y ≡ false) (map (λ (v : WriteView). v.stamp) ws)
apart_past s low [] le below = tt
apart_past s low (v ∷ ws) le below = (grind (arith, nat_tests, le, below.0), apart_past s low ws le below.1)

apart_both : (s : ℕ) (xs ys : List WriteView) → AllByRecursion (λ y. nat_eq s y ≡ false) (map (λ (v : WriteView). v.stamp) xs) → AllByRecursion (λ y. nat_eq s y ≡ false) (map (λ (v : WriteView). v.stamp) ys) →
    AllByRecursion (λ y. nat_eq s y ≡ false) (map (λ (v : WriteView). v.stamp) (xs ++ ys))
apart_both s [] ys a b = b
apart_both s (x ∷ xs) ys a b = (a.0, apart_both s xs ys a.1 b)

-- before earlier writes they all have stamps of their own
pub stamped_over : (low : ℕ) (ws old : List WriteView) → AreStampedFrom low ws → AreBelow low old → HasDistinctStamps old → HasDistinctStamps (ws ++ old)
stamped_over low [] old stamped below distinct = distinct
stamped_over low (w ∷ ws) old stamped below distinct =
    IsDistinct-cons nat_eq w.stamp (map (λ (v : WriteView). v.stamp) (ws ++ old))
    (apart_both w.stamp ws old (IsDistinct-head nat_eq w.stamp (map (λ (v : WriteView). v.stamp) ws) stamped.distinct) (apart_past w.stamp low old stamped.from.0 below))
    (stamped_over low ws old (record { distinct = distinct_rest w ws stamped.distinct; from = stamped.from.1 }) below distinct)

rising_from : (low from : ℕ) (ws : List WriteView) → low ≤ from → HasRisingStamps from ws → AllByRecursion (λ w. low ≤ w.stamp) ws
rising_from low from [] le rising = tt
rising_from low from (w ∷ ws) le rising = (omega (arith, le, rising.0), rising_from low (w.stamp + 1) ws (omega (arith, le, rising.0)) rising.1)

permuted_all : (P : WriteView → Type 0) (xs ys : List WriteView) → IsPermutation xs ys → AllByRecursion P xs → AllByRecursion P ys
permuted_all P xs ys moved all = recursion_from_All P ys (All-permutation P xs ys moved (All-from_recursion P xs all))

module _ (base : ℕ) (ops : List Op) (ws : List WriteView) (same : IsPermutation (writes_of base ops) ws) where
  pub batch_stamped : AreStampedFrom base ws
  batch_stamped = record {
    distinct = distinct_permuted (writes_of base ops) ws same (rising_distinct base (writes_of base ops) (rising_batch base ops));
    from = permuted_all (λ w. base ≤ w.stamp) (writes_of base ops) ws same (rising_from base base (writes_of base ops) (omega arith) (rising_batch base ops));
  }

  pub permuted_below : (bound : ℕ) → base + length ops ≤ bound → AreBelow bound ws
  permuted_below bound le = permuted_all (λ w. w.stamp < bound) (writes_of base ops) ws same (batch_below base bound ops le)

  -- as of the stamp of an operation the map before it is read
  pub permuted_read : (old : List WriteView) → HasDistinctStamps old → AreBelow base old → (start : Contents ValueBytes) (i : ℕ) → contents_as_of start (ws ++ old) (base + i) ≡ contents_after (take i ops) (contents_as_of start old base)
  permuted_read old distinct below start i =
      same_as_of start (ws ++ old) (writes_of base ops ++ old) (base + i) (distinct_permuted (writes_of base ops ++ old) (ws ++ old) moved both) both
      (λ key t lt. same_filtered (λ (w : WriteView). key_eq key w.key) (writes_of base ops ++ old) (ws ++ old) t moved both)
      ∙ over_read old base ops distinct below start i
    where
      moved : IsPermutation (writes_of base ops ++ old) (ws ++ old)
      moved = IsPermutation-append_left old (writes_of base ops) ws same

      both : HasDistinctStamps (writes_of base ops ++ old)
      both = over_distinct old base ops distinct below
