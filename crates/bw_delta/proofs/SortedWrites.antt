-- Writes that are sorted by key, and those of one key by their stamps.
use Rattle.std.proofs.Common.{◌≡◌, ◌≢◌, ℕ, zero, suc, ◌+◌, ◌<◌, ◌≤◌, Bool, true, false, cond, inl, inr, List, [], ◌∷◌, length, get_or, map, nat_eq, refl, sym, ap, ◌∙◌, arith, Ordering, Less, Equal, Greater, nat_cmp}
use Rattle.std.proofs.lemmas.Bool.{cases_lt}
use Rattle.std.proofs.lemmas.Cmp.{on_total, then_total, nat_cmp_total}
use Rattle.std.proofs.lemmas.List.Sorted.{ranks_by, sorted_far}
use Rattle.std.proofs.lemmas.Map.Keys.{IsDistinct-head}
use Rattle.std.specs.Cmp.{IsStrictWeakOrder, IsTotalOrder, nat_cmp_is}
use Rattle.std.specs.List.{AllByRecursion}
use Rattle.std.specs.List.Sorted.{IsPermutation, IsSortedBy}
use Rattle.std.specs.Ordering.{is_lt, ordering_then}
use Rattle.bw_key.specs.Order.{KeyBytes, key_cmp, key_cmp_total, key_eq}
use Rattle.bw_page.proofs.KeyLemmas.{cmp_self}
use Rattle.bw_page.proofs.Search.{same_keys}
use Rattle.bw_delta.specs.Batches.{writes_to}
use Rattle.bw_delta.specs.History.{HasDistinctStamps}
use Rattle.bw_delta.specs.Merging.{AreFrom}
use Rattle.bw_delta.specs.Rising.{HasRisingStamps}
use Rattle.bw_delta.specs.SortedWrites.{AreSortedByKey, HaveRisingStamps}
use Rattle.bw_delta.specs.Writes.{WriteView}
use Rattle.bw_delta.specs.declared.sorted_writes.KeyedWrite.{KeyedWrite}
use Rattle.bw_delta.proofs.Orders.{distinct_permuted, distinct_rest, not_same}

abbrev pub write_of : KeyedWrite → WriteView
write_of k = k.write.now

-- by key, and those of one key by stamp
abbrev pub write_cmp : WriteView → WriteView → Ordering
write_cmp v w = ordering_then (key_cmp v.key w.key) (nat_cmp v.stamp w.stamp)

write_total : IsTotalOrder write_cmp
write_total = then_total (on_total (λ (w : WriteView). w.key) key_cmp_total) (on_total (λ (w : WriteView). w.stamp) nat_cmp_total)

-- whether the first is before the second
abbrev pub is_before : KeyedWrite → KeyedWrite → Bool
is_before k l = is_lt (write_cmp (write_of k) (write_of l))

pub ranks : IsStrictWeakOrder is_before
ranks = ranks_by write_total write_of

-- no write is before one that stands in front of it
abbrev AreInOrder : List WriteView → Type 0
AreInOrder [] = Unit {0}
AreInOrder (w ∷ ws) = AllByRecursion (λ v. is_lt (write_cmp v w) ≡ false) ws × AreInOrder ws

in_order_from : (ks : List KeyedWrite) → ((i j : ℕ) (d : KeyedWrite) → i ≤ j → j < length ks → is_before (get_or ks j d) (get_or ks i d) ≡ false) → AreInOrder (map write_of ks)
in_order_from [] far = tt
in_order_from (k ∷ ks) far = (
  all ks (λ j d lt. far 0 (suc j) d (omega arith) (omega (arith, lt))),
  in_order_from ks (λ i j d le lt. far (suc i) (suc j) d (omega (arith, le)) (omega (arith, lt))),
)
  where
    all : (ks : List KeyedWrite) → ((j : ℕ) (d : KeyedWrite) → j < length ks → is_before (get_or ks j d) k ≡ false) → AllByRecursion (λ v. is_lt (write_cmp v (write_of k)) ≡ false) (map write_of ks)
    all [] each = tt
    all (x ∷ xs) each = (each 0 x (omega arith), all xs (λ j d lt. each (suc j) d (omega (arith, lt))))

in_order : (ks : List KeyedWrite) → IsSortedBy is_before ks → AreInOrder (map write_of ks)
in_order ks sorted = in_order_from ks (λ i j d le lt. sorted_far is_before ranks ks sorted i j d le lt)

-- a write that isn't before another has no lower key
key_upto : (v w : WriteView) → is_lt (write_cmp v w) ≡ false → is_lt (key_cmp v.key w.key) ≡ false
key_upto v w h = by (key_cmp v.key w.key) h
  where
    by : (r : Ordering) → is_lt (ordering_then r (nat_cmp v.stamp w.stamp)) ≡ false → is_lt r ≡ false
    by Less e = e
    by Equal e = refl
    by Greater e = refl

-- and with the same key no lower stamp
stamp_upto : (v w : WriteView) → is_lt (write_cmp v w) ≡ false → v.key ≡ w.key → w.stamp ≤ v.stamp
stamp_upto v w h same =
    let by_stamp = sym (ap (λ (k : KeyBytes). is_lt (ordering_then (key_cmp v.key k) (nat_cmp v.stamp w.stamp))) (sym same)
    ∙ ap (λ o. is_lt (ordering_then o (nat_cmp v.stamp w.stamp))) (cmp_self v.key)) ∙ h in
    elim (cases_lt v.stamp w.stamp) [
      | inl less ↦ absurd (different (ap is_lt (nat_cmp_is v.stamp w.stamp Less less) ∙ by_stamp))
      | inr upto ↦ upto
    ]
  where
    different : true ≡ false → ⊥
    different e = cc

next : (k : ℕ) → suc k + 1 ≡ suc (k + 1)
next k = omega arith

-- a write has no lower key than the one in front of it
adjacent : (ws : List WriteView) → AreInOrder ws → (k : ℕ) (d : WriteView) → k + 1 < length ws → is_lt (key_cmp (get_or ws (k + 1) d).key (get_or ws k d).key) ≡ false
adjacent [] order k d lt = absurd (omega (arith, lt))
adjacent (w ∷ []) order k d lt = absurd (omega (arith, lt))
adjacent (w ∷ v ∷ ws) order zero d lt = key_upto v w order.0.0
adjacent (w ∷ v ∷ ws) order (suc k) d lt =
    ap (λ i. is_lt (key_cmp (get_or (w ∷ v ∷ ws) i d).key (get_or (v ∷ ws) k d).key)) (next k)
    ∙ adjacent (v ∷ ws) order.1 k d (omega (arith, lt))

pub sorted_by_key : (ks : List KeyedWrite) → IsSortedBy is_before ks → AreSortedByKey (map write_of ks)
sorted_by_key ks sorted k d low up = adjacent (map write_of ks) (in_order ks sorted) k d (omega (arith, up))

-- the stamps of the writes to a key rise
rising_to : (q : KeyBytes) (low : ℕ) (ws : List WriteView) → AllByRecursion (λ v. key_eq q v.key ≡ true → low ≤ v.stamp) ws → AreInOrder ws → HasDistinctStamps ws → HasRisingStamps low (writes_to q ws)
rising_to q low [] above order distinct = tt
rising_to q low (w ∷ ws) above order distinct = elim (key_eq q w.key) as (λ b. key_eq q w.key ≡ b → HasRisingStamps low (cond b (w ∷ writes_to q ws) (writes_to q ws))) [
  | true ↦ λ e. (above.0 e, rising_to q (w.stamp + 1) ws (later e ws order.0 (IsDistinct-head nat_eq w.stamp (map (λ (v : WriteView). v.stamp) ws) distinct)) order.1 (distinct_rest w ws distinct))
  | false ↦ λ e. rising_to q low ws above.1 order.1 (distinct_rest w ws distinct)
] refl
  where
    later : key_eq q w.key ≡ true → (ws : List WriteView) → AllByRecursion (λ v. is_lt (write_cmp v w) ≡ false) ws → AllByRecursion (λ y. nat_eq w.stamp y ≡ false) (map (λ (v : WriteView). v.stamp) ws) →
        AllByRecursion (λ v. key_eq q v.key ≡ true → w.stamp + 1 ≤ v.stamp) ws
    later e [] order apart = tt
    later e (v ∷ ws) order apart = (
      λ f. above_stamp w.stamp v.stamp (stamp_upto v w order.0 (sym (same_keys q v.key f) ∙ same_keys q w.key e)) (not_same w.stamp v.stamp apart.0),
      later e ws order.1 apart.1,
    )
      where
        above_stamp : (m n : ℕ) → m ≤ n → m ≢ n → m + 1 ≤ n
        above_stamp m n le other = grind (arith, le, other)

any_key : (q : KeyBytes) (ws : List WriteView) → AllByRecursion (λ v. key_eq q v.key ≡ true → 0 ≤ v.stamp) ws
any_key q [] = tt
any_key q (w ∷ ws) = (λ e. omega arith, any_key q ws)

pub stamps_rising : (ws : List WriteView) (ks : List KeyedWrite) → HasDistinctStamps ws → IsPermutation ws (map write_of ks) → IsSortedBy is_before ks → HaveRisingStamps (map write_of ks)
stamps_rising ws ks distinct moved sorted key =
    rising_to key 0 (map write_of ks) (any_key key (map write_of ks)) (in_order ks sorted) (distinct_permuted ws (map write_of ks) moved distinct)

-- writes that are sorted by key don't fall, from a key on that is not above the first one's
pub from_sorted : (low : KeyBytes) (ws : List WriteView) → ((d : WriteView) → 0 < length ws → is_lt (key_cmp (get_or ws 0 d).key low) ≡ false) → AreSortedByKey ws → AreFrom low ws
from_sorted low [] first sorted = tt
from_sorted low (w ∷ ws) first sorted = (
  first w (omega arith),
  from_sorted w.key ws (λ d lt. sorted 0 d (omega arith) (omega (arith, lt))) (λ k d from up.
      sym (ap (λ i. is_lt (key_cmp (get_or (w ∷ ws) i d).key (get_or ws k d).key)) (next k)) ∙ sorted (suc k) d (omega arith) (omega (arith, up))),
)
