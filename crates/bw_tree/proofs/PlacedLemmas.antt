-- The staged writes, page by page.
use Rattle.std.proofs.Common.{◌≡◌, ◌≢◌, ℕ, zero, suc, ◌<◌, ◌≤◌, Bool, true, false, List, [], ◌∷◌, map, nat_eq, Option, Some, None, inl, inr, refl, sym, ap, ◌∙◌, subst, arith}
use Rattle.std.specs.Prelude.{filter, slice_get}
use Rattle.std.specs.List.{Contains, AllByRecursion, IsDistinct}
use Rattle.std.specs.List.Sorted.{IsPermutation}
use Rattle.std.proofs.lemmas.Bool.{cases_eq}
use Rattle.std.proofs.lemmas.Map.Keys.{IsDistinct-cons}
use Rattle.bw_core.specs.World.{times}
use Rattle.bw_core.proofs.Lists.{one_same, one_other}
use Rattle.bw_delta.specs.Writes.{WriteView}
use Rattle.bw_delta.specs.History.{HasDistinctStamps}
use Rattle.bw_delta.proofs.Filters.{kept, was_there, distinct_filter}
use Rattle.bw_delta.proofs.Orders.{same_members}
use Rattle.bw_tree.proofs.PostedLemmas.{named, write_before}
use Rattle.bw_tree.proofs.StampedLemmas.{stamps_differ}
use Rattle.bw_chain.proofs.ReadingLemmas.{read_is}

no_write : {w : WriteView} → None ≡ Some w → ⊥
no_write e = cc

one_write : {v w : WriteView} → Some v ≡ Some w → v ≡ w
one_write e = cc

there_is : (ws : List WriteView) (r : ℕ) (v : WriteView) → slice_get ws r ≡ Some v → Contains ws v
there_is [] r v e = absurd (no_write e)
there_is (w ∷ ws) zero v e = (0, omega arith, one_write e)
there_is (w ∷ ws) (suc r) v e = let more = there_is ws r v e in (suc more.0, omega (arith, more.1), more.2)

module _ (ws : List WriteView) (distinct : HasDistinctStamps ws) where
  -- a write whose record isn't among others has a stamp of its own
  apart : (r : ℕ) (v : WriteView) (rs : List ℕ) → slice_get ws r ≡ Some v → times r rs ≡ 0 → AllByRecursion (λ y. nat_eq v.stamp y ≡ false) (map (λ (w : WriteView). w.stamp) (named ws rs))
  apart r v [] at none = tt
  apart r v (q ∷ rs) at none = by (slice_get ws q) refl (apart r v rs at (omega (arith, none)))
    where
      other : r ≢ q
      other e = absurd (omega (arith, none, one_same q r (sym e)))

      by : (o : Option WriteView) → slice_get ws q ≡ o → AllByRecursion (λ y. nat_eq v.stamp y ≡ false) (map (λ (w : WriteView). w.stamp) (named ws rs)) → AllByRecursion (λ y. nat_eq v.stamp y ≡ false) (map (λ (w : WriteView). w.stamp) (write_before o (named ws rs)))
      by None e rest = rest
      by (Some w) e rest = (stamps_differ ws r q v w distinct at e other, rest)

  named_distinct : (rs : List ℕ) → ((x : ℕ) → times x rs ≤ 1) → HasDistinctStamps (named ws rs)
  unfolding IsDistinct
  named_distinct [] once = tt
  named_distinct (r ∷ rs) once = by (slice_get ws r) refl (named_distinct rs (λ x. omega (arith, once x)))
    where
      none : times r rs ≡ 0
      none = omega (arith, once r, one_same r r refl)

      by : (o : Option WriteView) → slice_get ws r ≡ o → HasDistinctStamps (named ws rs) → HasDistinctStamps (write_before o (named ws rs))
      by None e rest = rest
      by (Some v) e rest = IsDistinct-cons nat_eq v.stamp (map (λ (w : WriteView). w.stamp) (named ws rs)) (apart r v rs e none) rest

  named_by : (rs : List ℕ) (v : WriteView) → Contains (named ws rs) v → (r : ℕ) × (0 < times r rs) × (slice_get ws r ≡ Some v)
  named_by [] v has = absurd (omega (arith, has.1))
  named_by (r ∷ rs) v has = by (slice_get ws r) refl has (λ later. named_by rs v later)
    where
      further : (q : ℕ) × (0 < times q rs) × (slice_get ws q ≡ Some v) → (q : ℕ) × (0 < times q (r ∷ rs)) × (slice_get ws q ≡ Some v)
      further more = (more.0, omega (arith, more.1), more.2)

      by : (o : Option WriteView) → slice_get ws r ≡ o → Contains (write_before o (named ws rs)) v → (Contains (named ws rs) v → (q : ℕ) × (0 < times q rs) × (slice_get ws q ≡ Some v)) → (q : ℕ) × (0 < times q (r ∷ rs)) × (slice_get ws q ≡ Some v)
      by None e has rest = further (rest has)
      by (Some w) e (zero, lt, at) rest = (r, omega (arith, one_same r r refl), e ∙ ap Some at)
      by (Some w) e (suc k, lt, at) rest = further (rest (k, omega (arith, lt), at))

  is_named : (rs : List ℕ) (r : ℕ) (v : WriteView) → 0 < times r rs → slice_get ws r ≡ Some v → Contains (named ws rs) v
  is_named [] r v some at = absurd (omega (arith, some))
  is_named (q ∷ rs) r v some at = elim (cases_eq q r) [
    | inl same ↦ subst (λ o. Contains (write_before o (named ws rs)) v) (sym (ap (slice_get ws) same ∙ at)) (0, omega arith, refl)
    | inr other ↦ behind (slice_get ws q) (is_named rs r v (omega (arith, some, one_other q r other)) at)
  ]
    where
      behind : (o : Option WriteView) → Contains (named ws rs) v → Contains (write_before o (named ws rs)) v
      behind None has = has
      behind (Some w) has = (suc has.0, omega (arith, has.1), has.2)

  -- Records that are those of the writes that pass a test, each once, name these writes.
  pub named_are : (f : WriteView → Bool) (rs : List ℕ) → ((x : ℕ) → times x rs ≤ 1) → ((r : ℕ) (w : WriteView) → slice_get ws r ≡ Some w → f w ≡ true → 0 < times r rs) → ((r : ℕ) (w : WriteView) → slice_get ws r ≡ Some w → 0 < times r rs → f w ≡ true) → IsPermutation (filter f ws) (named ws rs)
  named_are f rs once here only =
      same_members (filter f ws) (named ws rs) (distinct_filter f ws distinct) (named_distinct rs once)
      (λ v has.
      let was = was_there f ws v has in
      let at : slice_get ws was.0.0 ≡ Some v = read_is ws was.0.0 v was.0.1 (sym was.0.2) in
      is_named rs was.0.0 v (here was.0.0 v at was.1) at)
      (λ v has. let by = named_by rs v has in kept f ws v (there_is ws by.0 v by.2) (only by.0 v by.2 by.1))

  -- each of them passes
  pub named_pass : (P : WriteView → Type 0) (rs : List ℕ) → ((r : ℕ) (w : WriteView) → slice_get ws r ≡ Some w → 0 < times r rs → P w) → AllByRecursion P (named ws rs)
  named_pass P [] only = tt
  named_pass P (r ∷ rs) only = by (slice_get ws r) refl (named_pass P rs (λ q w at some. only q w at (omega (arith, some))))
    where
      by : (o : Option WriteView) → slice_get ws r ≡ o → AllByRecursion P (named ws rs) → AllByRecursion P (write_before o (named ws rs))
      by None e rest = rest
      by (Some w) e rest = (only r w e (omega (arith, one_same r r refl)), rest)
