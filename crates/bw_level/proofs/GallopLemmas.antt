-- Where something lies among separators that rise, found by steps and then by halves.
use Rattle.std.proofs.Common.{◌≡◌, ℕ, zero, suc, ◌+◌, ◌-◌, ◌<◌, ◌≤◌, Bool, true, false, T, List, [], ◌∷◌, length, take, drop, get_or, Option, Some, None, inl, inr, refl, sym, ap, ◌∙◌, subst, arith}
use Rattle.std.proofs.lemmas.Bool.{cases_lt}
use Rattle.std.proofs.lemmas.List.{get_or-take, get_or-drop, length-drop, length-take}
use Rattle.std.specs.Option.{SomeIff}
use Rattle.std.specs.FinMap.{is_sorted}
use Rattle.std.specs.FinMap.Entries.{below_all}
use Rattle.bw_key.specs.Order.{KeyBytes, key_cmp}
use Rattle.bw_page.proofs.Truths.{left_of, right_of, both_of}
use Rattle.bw_page.proofs.Entries.{sorted_drop}
use Rattle.bw_level.specs.declared.target.Target.{Target}
use Rattle.bw_level.specs.Targets.{PartsChildren, lies_from}
use Rattle.bw_level.specs.Searches.{IsFromPlace, IsPlaceFor, IsStretch}
use Rattle.bw_level.proofs.TargetLemmas.{parted}

different : false ≡ true → ⊥
different e = cc

below_take : (k : KeyBytes) (n : ℕ) (es : List (KeyBytes × ℕ)) → T (below_all key_cmp k es) → T (below_all key_cmp k (take n es))
below_take k zero es h = tt
below_take k (suc n) [] h = tt
below_take k (suc n) (e ∷ es) h = both_of _ _ (left_of _ _ h) (below_take k n es (right_of _ _ h))

sorted_take : (n : ℕ) (es : List (KeyBytes × ℕ)) → T (is_sorted key_cmp es) → T (is_sorted key_cmp (take n es))
sorted_take zero es h = tt
sorted_take (suc n) [] h = tt
sorted_take (suc n) (e ∷ es) h = both_of _ _ (below_take e.0 n es (left_of _ _ h)) (sorted_take n es (right_of _ _ h))

-- separators between two places rise
pub sorted_between : (start count : ℕ) (es : List (KeyBytes × ℕ)) → T (is_sorted key_cmp es) → T (is_sorted key_cmp (take count (drop start es)))
sorted_between start count es h = sorted_take count (drop start es) (sorted_drop start es h)

module _ (target : Target) (es : List (KeyBytes × ℕ)) where
  module _ (sorted : T (is_sorted key_cmp es)) where
    -- what is sought isn't before the separators up to one that it isn't before
    all_behind : (last : ℕ) → last < length es → IsFromPlace target es last → (i : ℕ) (d : KeyBytes × ℕ) → i < last + 1 → lies_from target (get_or es i d).0 ≡ true
    all_behind last within from i d lt = parted target es sorted i last d (omega arith) within (from d)

    -- and it is before those from one on that it is before
    all_before : (next : ℕ) → ((d : KeyBytes × ℕ) → lies_from target (get_or es next d).0 ≡ false) → (i : ℕ) (d : KeyBytes × ℕ) → next ≤ i → i < length es → lies_from target (get_or es i d).0 ≡ false
    all_before next before i d le lt = by (lies_from target (get_or es i d).0) refl
      where
        by : (t : Bool) → lies_from target (get_or es i d).0 ≡ t → lies_from target (get_or es i d).0 ≡ false
        by true e = absurd (different (sym (before d) ∙ parted target es sorted next i d le lt e))
        by false e = e

    -- so it lies behind the one and before the other, or before the end
    pub stretch_before : (last next : ℕ) → last < next → next < length es → IsFromPlace target es last → ((d : KeyBytes × ℕ) → lies_from target (get_or es next d).0 ≡ false) → IsStretch target es (last + 1) next
    stretch_before last next up lt from before = record {
      ordered = omega arith;
      within = omega arith;
      behind = all_behind last (omega arith) from;
      before = all_before next before;
    }

    pub stretch_to_end : (last : ℕ) → last < length es → IsFromPlace target es last → IsStretch target es (last + 1) (length es)
    stretch_to_end last lt from = record {
      ordered = omega arith;
      within = omega arith;
      behind = all_behind last lt from;
      before = λ i d le under. absurd (omega (arith, le, under));
    }

  between_at : (start end i : ℕ) (d : KeyBytes × ℕ) → start ≤ i → i < end → get_or (take (end - start) (drop start es)) (i - start) d ≡ get_or es i d
  between_at start end i d from under =
      let lt : i - start < end - start = omega arith in
      let same : start + (i - start) ≡ i = omega arith in
      get_or-take (end - start) (drop start es) (i - start) d lt ∙ get_or-drop start es (i - start) d ∙ ap (λ m. get_or es m d) same

  pub between_length : (start end : ℕ) → start ≤ end → end ≤ length es → length (take (end - start) (drop start es)) ≡ end - start
  between_length start end ordered within = omega (arith, length-take (end - start) (drop start es), length-drop start es)

  -- the separators between two places are parted where all are
  pub joined_parts : (start end n : ℕ) → IsStretch target es start end → PartsChildren target (take (end - start) (drop start es)) n → n ≤ length (take (end - start) (drop start es)) → PartsChildren target es (start + n)
  joined_parts start end n stretch parts few = (behind, before)
    where
      size : length (take (end - start) (drop start es)) ≡ end - start
      size = between_length start end stretch.ordered stretch.within

      behind : (i : ℕ) (d : KeyBytes × ℕ) → 0 ≤ i → i < start + n → lies_from target (get_or es i d).0 ≡ true
      behind i d low lt = elim (cases_lt i start) [
        | inl less ↦ stretch.behind i d less
        | inr ge ↦
            let under : i < end = omega (arith, size, few, stretch.ordered) in
            let in_part : i - start < n = omega (arith, lt, ge) in
            subst (λ (c : KeyBytes × ℕ). lies_from target c.0 ≡ true) (between_at start end i d ge under) (parts.0 (i - start) d (omega arith) in_part)
      ]

      before : (i : ℕ) (d : KeyBytes × ℕ) → start + n ≤ i → i < length es → lies_from target (get_or es i d).0 ≡ false
      before i d from lt = elim (cases_lt i end) [
        | inl under ↦
            let ge : start ≤ i = omega (arith, from) in
            let in_part : n ≤ i - start = omega (arith, from) in
            let there : i - start < length (take (end - start) (drop start es)) = omega (arith, size, under, ge) in
            subst (λ (c : KeyBytes × ℕ). lies_from target c.0 ≡ false) (between_at start end i d ge under) (parts.1 (i - start) d in_part there)
        | inr past ↦ stretch.before i d past lt
      ]

  -- the place before the first separator that what is sought is before, if there is one
  pub place_there : (n : ℕ) → PartsChildren target es n → n ≤ length es → (r : Option ℕ) → SomeIff r (1 ≤ n) (n - 1) → IsPlaceFor target es r
  place_there n parts within None none = elim (cases_lt 0 n) [
    | inl some ↦ absurd (none (omega arith))
    | inr zero_or_less ↦ let is_zero : n ≡ 0 = omega arith in subst (PartsChildren target es) is_zero parts
  ]
  place_there n parts within (Some place) some =
      let is_next : n ≡ place + 1 = omega (arith, some.0, some.1) in
      (omega (arith, is_next, within), subst (PartsChildren target es) is_next parts)
