-- The writes that pass a test, in another order.
use Rattle.std.proofs.Common.{◌≡◌, ℕ, zero, suc, ◌<◌, Bool, true, false, cond, List, [], ◌∷◌, length, get_or, map, nat_eq, refl, sym, ap, ◌∙◌, subst, arith}
use Rattle.std.specs.Prelude.{filter}
use Rattle.std.specs.List.{Contains, AllByRecursion}
use Rattle.std.specs.List.Sorted.{IsPermutation}
use Rattle.std.proofs.lemmas.List.Sorted.{IsPermutation-sym, Contains-permutation}
use Rattle.std.proofs.lemmas.Map.Keys.{IsDistinct-head, IsDistinct-tail, IsDistinct-cons}
use Rattle.bw_delta.specs.Writes.{WriteView}
use Rattle.bw_delta.specs.History.{action_at, HasDistinctStamps}
use Rattle.bw_delta.proofs.Orders.{alike_actions, distinct_permuted}

module _ {X : Type 0} (p : X → Bool) where
  -- what passes stays
  pub kept : (xs : List X) (x : X) → Contains xs x → p x ≡ true → Contains (filter p xs) x
  kept [] x has pass = has
  kept (y ∷ ys) x (zero, lt, at) pass = subst (λ b. Contains (cond b (y ∷ filter p ys) (filter p ys)) x) (sym (ap p at ∙ pass)) (0, omega arith, at)
  kept (y ∷ ys) x (suc k, lt, at) pass =
      let more = kept ys x (k, omega (arith, lt), at) pass in
      elim (p y) as (λ b. Contains (cond b (y ∷ filter p ys) (filter p ys)) x) [ true ↦ (suc more.0, omega (arith, more.1), more.2) | false ↦ more ]

  -- and what stayed was there, and passes
  pub was_there : (xs : List X) (x : X) → Contains (filter p xs) x → Contains xs x × (p x ≡ true)
  was_there [] x has = absurd (omega (arith, has.1))
  was_there (y ∷ ys) x has = elim (p y) as (λ b. p y ≡ b → Contains (cond b (y ∷ filter p ys) (filter p ys)) x → Contains (y ∷ ys) x × (p x ≡ true)) [
    | true ↦ λ b has. at (was_there ys x) b has.0 has.1 has.2
    | false ↦ λ b has. let more = was_there ys x has in ((suc more.0.0, omega (arith, more.0.1), more.0.2), more.1)
  ] refl has
    where
      at : (Contains (filter p ys) x → Contains ys x × (p x ≡ true)) → p y ≡ true → (k : ℕ) → k < suc (length (filter p ys)) → get_or (y ∷ filter p ys) k x ≡ x → Contains (y ∷ ys) x × (p x ≡ true)
      at later b zero lt e = ((0, omega arith, e), ap p (sym e) ∙ b)
      at later b (suc k) lt e = let more = later (k, omega (arith, lt), e) in ((suc more.0.0, omega (arith, more.0.1), more.0.2), more.1)

module _ (p : WriteView → Bool) where
  pub apart_filter : (s : ℕ) (ws : List WriteView) → AllByRecursion (λ y. nat_eq s y ≡ false) (map (λ (w : WriteView). w.stamp) ws) → AllByRecursion (λ y. nat_eq s y ≡ false) (map (λ (w : WriteView). w.stamp) (filter p ws))
  apart_filter s [] h = h
  apart_filter s (w ∷ ws) h = by (p w) (apart_filter s ws h.1)
    where
      by : (b : Bool) → AllByRecursion (λ y. nat_eq s y ≡ false) (map (λ (w : WriteView). w.stamp) (filter p ws)) → AllByRecursion (λ y. nat_eq s y ≡ false) (map (λ (w : WriteView). w.stamp) (cond b (w ∷ filter p ws) (filter p ws)))
      by true rest = (h.0, rest)
      by false rest = rest

  pub distinct_filter : (ws : List WriteView) → HasDistinctStamps ws → HasDistinctStamps (filter p ws)
  distinct_filter [] h = h
  distinct_filter (w ∷ ws) h =
      let stamps = map (λ (v : WriteView). v.stamp) ws in
      by (p w) (distinct_filter ws (IsDistinct-tail nat_eq w.stamp stamps h)) (apart_filter w.stamp ws (IsDistinct-head nat_eq w.stamp stamps h))
    where
      by : (b : Bool) → HasDistinctStamps (filter p ws) → AllByRecursion (λ y. nat_eq w.stamp y ≡ false) (map (λ (w : WriteView). w.stamp) (filter p ws)) → HasDistinctStamps (cond b (w ∷ filter p ws) (filter p ws))
      by true rest apart = IsDistinct-cons nat_eq w.stamp (map (λ (v : WriteView). v.stamp) (filter p ws)) apart rest
      by false rest apart = rest

  -- what was written with a stamp, of the writes that pass, doesn't depend on the order
  pub same_filtered : (xs ys : List WriteView) (t : ℕ) → IsPermutation xs ys → HasDistinctStamps xs → action_at (filter p ys) t ≡ action_at (filter p xs) t
  same_filtered xs ys t moved distinct =
      alike_actions (filter p xs) (filter p ys) t
      (λ v has. let was = was_there p xs v has in kept p ys v (Contains-permutation xs ys v moved was.0) was.1)
      (λ v has. let was = was_there p ys v has in kept p xs v (Contains-permutation ys xs v (IsPermutation-sym xs ys moved) was.0) was.1)
      (distinct_filter xs distinct) (distinct_filter ys (distinct_permuted xs ys moved distinct))
