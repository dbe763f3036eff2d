-- Lists that are seen through a function of their elements.
use Rattle.std.proofs.Common.{◌≡◌, ℕ, ◌+◌, ◌-◌, ◌<◌, ◌≤◌, Bool, List, [], ◌∷◌, length, map, take, drop, get_or, slice_range, refl, Ok, Err, Result, sym, ap, ◌∙◌, subst, arith, length-take, length-drop}
use Rattle.std.proofs.lemmas.List.{drop-map, get_or-map, length-map, take-map}
use Rattle.std.proofs.lemmas.List.Sums.{sum_by-cons}
use Rattle.std.specs.List.{sum_by}
use Rattle.std.specs.List.Sorted.{IsPartitionedBy}
use Rattle.bw_packed.specs.Pairs.{pair_of}
use Rattle.bw_packed.specs.Search.{EndsAt, IsSearched}

module _ {X Y : Type 0} (f : X → Y) where
  pub slice_range-map : (xs : List X) (i j : ℕ) → slice_range (map f xs) i j ≡ map f (slice_range xs i j)
  slice_range-map xs i j = ap (take (j - i)) (drop-map f i xs) ∙ take-map f (j - i) (drop i xs)

  -- the element at a place, at any default
  pub seen_at : (xs : List X) (ys : List Y) (i : ℕ) (y : Y) → map f xs ≡ ys → i < length ys → (x : X) × (f (get_or xs i x) ≡ get_or ys i y)
  seen_at [] ys i y is lt = absurd (none (subst (λ l. i < length l) (sym is) lt))
    where
      none : i < 0 → ⊥
      none h = omega arith
  seen_at (x ∷ xs) ys i y is lt = (x, sym (get_or-map f (x ∷ xs) i x y within) ∙ ap (λ (l : List Y). get_or l i y) is)
    where
      within : i < length (x ∷ xs)
      within = omega (arith, subst (λ l. i < length l) (sym is) lt, length-map (x ∷ xs) f)

  pub as_many_seen : (xs : List X) (ys : List Y) → map f xs ≡ ys → length xs ≡ length ys
  as_many_seen xs ys is = sym (length-map xs f) ∙ ap length is

  -- those that pass a test come first in both lists, and end at one place
  parted_seen : (p : Y → Bool) (xs : List X) (ys : List Y) → map f xs ≡ ys → IsPartitionedBy p ys → IsPartitionedBy (λ x. p (f x)) xs
  parted_seen p xs ys is parted i j d le lt passes =
      let read : (n : ℕ) → n < length xs → p (get_or ys n (f d)) ≡ p (f (get_or xs n d)) =
      λ n lt. ap (λ (l : List Y). p (get_or l n (f d))) (sym is) ∙ ap p (get_or-map f xs n d (f d) lt) in
      sym (read i (omega (arith, le, lt))) ∙ parted i j (f d) le (omega (arith, lt, as_many_seen xs ys is)) (read j lt ∙ passes)

  pub ends_seen : (p : Y → Bool) (xs : List X) (ys : List Y) (n : ℕ) → map f xs ≡ ys → n ≤ length xs → EndsAt (λ x. p (f x)) xs n → EndsAt p ys n
  ends_seen p xs ys n is within ends parted =
      let all = as_many_seen xs ys is in
      let parts = ends (parted_seen p xs ys is parted) in (
        (λ k d lower upper. let there = seen_at xs ys k d is (omega (arith, all, upper, within)) in ap p (sym there.1) ∙ parts.0 k there.0 lower upper),
        (λ k d lower upper. let there = seen_at xs ys k d is upper in ap p (sym there.1) ∙ parts.1 k there.0 lower (omega (arith, all, upper))),
      )

  pub searched_seen : (below same : Y → Bool) (xs : List X) (ys : List Y) (r : Result ℕ ℕ) → map f xs ≡ ys →
      IsSearched (λ x. below (f x)) (λ x. same (f x)) xs r → IsSearched below same ys r
  searched_seen below same xs ys (Ok n) is (lt, there, ends) =
      let all = as_many_seen xs ys is in
      let within : n < length ys = omega (arith, all, lt) in
      (within, (λ d. let seen = seen_at xs ys n d is within in ap same (sym seen.1) ∙ there seen.0), ends_seen below xs ys n is (omega (arith, lt)) ends)
  searched_seen below same xs ys (Err n) is (le, other, ends) =
      let all = as_many_seen xs ys is in (
        omega (arith, all, le),
        (λ lt d. let seen = seen_at xs ys n d is lt in ap same (sym seen.1) ∙ other (omega (arith, all, lt)) seen.0),
        ends_seen below xs ys n is le ends,
      )

-- a pair has the bytes of its entry
pub pair_bytes : (e : List ℕ × ℕ) → length (pair_of e).0 + length (pair_of e).1 ≡ length e.0
pair_bytes e = omega (arith, length-take e.1 e.0, length-drop e.1 e.0)

pub pairs_bytes : (es : List (List ℕ × ℕ)) → sum_by (λ (pair : List ℕ × List ℕ). length pair.0 + length pair.1) (map pair_of es) ≡ sum_by (λ (e : List ℕ × ℕ). length e.0) es
pairs_bytes [] = refl
pairs_bytes (e ∷ es) =
    sum_by-cons (λ (pair : List ℕ × List ℕ). length pair.0 + length pair.1) (pair_of e) (map pair_of es)
    ∙ ap (λ n. n + sum_by (λ (pair : List ℕ × List ℕ). length pair.0 + length pair.1) (map pair_of es)) (pair_bytes e)
    ∙ ap (λ n. length e.0 + n) (pairs_bytes es)
    ∙ sym (sum_by-cons (λ (x : List ℕ × ℕ). length x.0) e es)
