-- The places of parts.
use Rattle.std.proofs.Common.{◌≡◌, ℕ, zero, suc, ◌+◌, ◌-◌, ◌*◌, ◌<◌, ◌≤◌, min, max, inl, inr, List, [], ◌∷◌, ◌++◌, length, take, drop, sym, ap, ◌∙◌, subst, arith}
use Rattle.std.specs.Int.{div_ceil}
use Rattle.std.proofs.Math.Nat.{add-mul, le-max_left, le_trans, lt_of_le_of_lt, lt_of_lt_of_le, lt_of_mul-lt-mul_right, max-eq_left, max-eq_right, mul_comm, mul-le-mul_right, one-mul}
use Rattle.std.proofs.lemmas.Bool.{cases_lt}
use Rattle.std.specs.List.{AllByRecursion, flat_map}
use Rattle.std.proofs.lemmas.Grind.{div_ceil_times, flat_map-append}
use Rattle.std.proofs.lemmas.List.{append-nil}
use Rattle.bw_answer.specs.Parts.{IsSpanOf, places_in, elements_in}
use Rattle.bw_answer.specs.declared.parts.Part.{Part}
use Rattle.bw_answer.specs.declared.parts.Span.{Span}
use Rattle.bw_group.proofs.ListParts.{all_append, take_to}
use Rattle.bw_answer.proofs.ListLemmas.{all_back, all_drop, all_front, all_take}

-- The parts so far have a list up to a place.
abbrev pub HaveTo : (Part → Span) → ℕ → List Part → ℕ → Type 0
HaveTo span len parts n = (xs : List ℕ) → length xs ≡ len → flat_map (λ part. elements_in (span part) xs) parts ≡ take n xs

pub part_more : (span : Part → Span) (len : ℕ) (parts parts' : List Part) (n : ℕ) (part : Part) → HaveTo span len parts n → parts' ≡ parts ++ part ∷ [] → (span part).start ≡ n → IsSpanOf len (span part) → HaveTo span len parts' (span part).end
part_more span len parts parts' n part so is start within xs size =
    ap (flat_map (λ (p : Part). elements_in (span p) xs)) is
    ∙ flat_map-append (λ (p : Part). elements_in (span p) xs) parts (part ∷ [])
    ∙ ap (λ l. flat_map (λ (p : Part). elements_in (span p) xs) parts ++ l) (append-nil (elements_in (span part) xs))
    ∙ ap (λ l. l ++ elements_in (span part) xs) (so xs size)
    ∙ ap (λ (k : ℕ). take k xs ++ elements_in (span part) xs) (sym start)
    ∙ sym (take_to xs (span part).start (span part).end within.0)

-- parts of this length are enough for all elements
pub shares_enough : (len count most : ℕ) → 0 < count → most ≡ max (div_ceil len count) 1 → len ≤ count * most
shares_enough len count most pos is =
    let d = div_ceil len count in
    le_trans (div_ceil_times len count pos).0
    (subst (λ n. d * count ≤ n) (mul_comm most count) (mul-le-mul_right count (subst (λ n. d ≤ n) (sym is) (le-max_left d 1))))

-- and no longer than an equal share
pub share_of_part : (len count most n : ℕ) → 0 < count → most ≡ max (div_ceil len count) 1 → n ≤ most → n ≤ len → n * count < len + count
share_of_part len count most n pos is le within = elim (cases_lt 0 (div_ceil len count)) [
  | inl some ↦
      let less : n ≤ div_ceil len count = subst (λ m. n ≤ m) (is ∙ max-eq_left some) le in
      lt_of_le_of_lt (mul-le-mul_right count less) (div_ceil_times len count pos).1
  | inr none ↦ by n within (subst (λ m. n ≤ m) (is ∙ max-eq_right (le_trans none (omega arith))) le)
]
  where
    by : (n : ℕ) → n ≤ len → n ≤ 1 → n * count < len + count
    by zero within le = omega (arith, pos)
    by (suc zero) within le = omega (arith, pos, within)
    by (suc (suc n)) within le = absurd (omega (arith, le))

-- where so many parts of this length end, and one more
pub next_cut : (k most len cut : ℕ) → cut ≡ min (k * most) len → min (cut + most) len ≡ min ((k + 1) * most) len
next_cut k most len cut is =
    let more : (k + 1) * most ≡ k * most + most = add-mul k 1 most ∙ ap (λ n. k * most + n) (one-mul most) in
    ap (λ n. min (n + most) len) is ∙ past (k * most) ∙ ap (λ n. min n len) (sym more)
  where
    past : (n : ℕ) → min (min n len + most) len ≡ min (n + most) len
    past n = omega arith

-- while some element is left there are fewer parts
pub parts_left : (k most count len cut : ℕ) → cut ≡ min (k * most) len → len ≤ count * most → cut < len → k < count
parts_left k most count len cut is enough left =
    lt_of_mul-lt-mul_right most (lt_of_lt_of_le (omega (arith, is, left)) enough)

module _ (P : ℕ → Type 0) where
  pub spanned_holds : (span : Span) (xs : List ℕ) → AllByRecursion P xs → AllByRecursion P (elements_in span xs)
  spanned_holds span xs all = all_take P (span.end - span.start) (drop span.start xs) (all_drop P span.start xs all)

  -- what holds of the points and the scans holds in each part
  pub in_parts : (points scans : List ℕ) → AllByRecursion P points → AllByRecursion P scans → (parts : List Part) → AllByRecursion P (flat_map (places_in points scans) parts)
  in_parts points scans ps ss [] = tt
  in_parts points scans ps ss (part ∷ parts) =
      all_append P (places_in points scans part) (flat_map (places_in points scans) parts)
      (all_append P (elements_in part.points points) (elements_in part.scans scans) (spanned_holds part.points points ps) (spanned_holds part.scans scans ss))
      (in_parts points scans ps ss parts)

  -- and the other way round
  pub points_of_parts : (points scans : List ℕ) (parts : List Part) → AllByRecursion P (flat_map (places_in points scans) parts) → AllByRecursion P (flat_map (λ part. elements_in part.points points) parts)
  points_of_parts points scans [] all = tt
  points_of_parts points scans (part ∷ parts) all =
      let rest = flat_map (places_in points scans) parts in
      let here = all_front P (places_in points scans part) rest all in
      all_append P (elements_in part.points points) (flat_map (λ (p : Part). elements_in p.points points) parts)
      (all_front P (elements_in part.points points) (elements_in part.scans scans) here)
      (points_of_parts points scans parts (all_back P (places_in points scans part) rest all))

  pub scans_of_parts : (points scans : List ℕ) (parts : List Part) → AllByRecursion P (flat_map (places_in points scans) parts) → AllByRecursion P (flat_map (λ part. elements_in part.scans scans) parts)
  scans_of_parts points scans [] all = tt
  scans_of_parts points scans (part ∷ parts) all =
      let rest = flat_map (places_in points scans) parts in
      let here = all_front P (places_in points scans part) rest all in
      all_append P (elements_in part.scans scans) (flat_map (λ (p : Part). elements_in p.scans scans) parts)
      (all_back P (elements_in part.points points) (elements_in part.scans scans) here)
      (scans_of_parts points scans parts (all_back P (places_in points scans part) rest all))
