-- Runs of a list: what stands in them, and their parts.
use Rattle.std.proofs.Common.{◌≡◌, ℕ, ◌+◌, ◌-◌, ◌^◌, ◌<◌, ◌≤◌, List, length, take, drop, get_or, slice_range, sym, ap, ◌∙◌, arith, length-take, length-drop}
use Rattle.std.proofs.lemmas.List.{drop-drop, drop-take, get_or-drop, get_or-take, take-take}
use Rattle.bw_packed.specs.Pairs.{ArePlacesOf}

module _ {X : Type 0} where
  pub length_run : (xs : List X) (i j : ℕ) → i ≤ j → j ≤ length xs → length (slice_range xs i j) ≡ j - i
  length_run xs i j rising within = omega (arith, length-take (j - i) (drop i xs), length-drop i xs)

  pub run_at : (xs : List X) (i j n : ℕ) (d : X) → n < j - i → get_or (slice_range xs i j) n d ≡ get_or xs (i + n) d
  run_at xs i j n d lt = get_or-take (j - i) (drop i xs) n d lt ∙ get_or-drop i xs n d

  pub front_of_run : (xs : List X) (i j n : ℕ) → n ≤ j - i → slice_range xs i (i + n) ≡ take n (slice_range xs i j)
  front_of_run xs i j n le = ap (λ m. take m (drop i xs)) (omega arith) ∙ sym (take-take n (j - i) (drop i xs) le)

  pub back_of_run : (xs : List X) (i j n : ℕ) → i + n ≤ j → slice_range xs (i + n) j ≡ drop n (slice_range xs i j)
  back_of_run xs i j n le =
      ap (take (j - (i + n))) (sym (drop-drop n i xs))
      ∙ sym (drop-take n (j - (i + n)) (drop i xs))
      ∙ ap (λ m. drop n (take m (drop i xs))) (omega (arith, le))

  -- what is seen of a run has as many elements
  pub as_many_in_run : (xs : List X) (i j : ℕ) (ys : List X) → i ≤ j → j ≤ length xs → slice_range xs i j ≡ ys → length ys ≡ j - i
  as_many_in_run xs i j ys rising within is = ap length (sym is) ∙ length_run xs i j rising within

  -- a place in a run is one of the list's, which a machine word holds
  pub place_fits : (xs : List X) (i j n : ℕ) (ys : List X) → ArePlacesOf i j xs → slice_range xs i j ≡ ys → n < length ys → i + n < 2 ^ 64
  place_fits xs i j n ys places is lt = omega (arith, lt, places.fits, as_many_in_run xs i j ys places.rising places.within is)
