-- Two lists side by side.
use Rattle.std.proofs.Common.{◌≡◌, ℕ, zero, suc, ◌+◌, ◌<◌, ◌≤◌, List, [], ◌∷◌, ◌++◌, length, take, drop, Some, None, get_or, slice_get, refl, ap, ◌∙◌, arith, length-append, length-take, length-drop}
use Rattle.std.specs.List.{zip}
use Rattle.std.proofs.Math.Seq.{take-append_seam}
use Rattle.std.proofs.lemmas.Option.{none-some}
use Rattle.std.proofs.lemmas.Slice.Zip.{length-zip}

-- a list whose middle was written over, as long as it was
pub length_put : {X : Type 0} (start : ℕ) (given old : List X) → start + length given ≤ length old → length (take start old ++ given ++ drop (start + length given) old) ≡ length old
length_put start given old fits =
    let a = length-append (take start old ++ given) (drop (start + length given) old) in
    let b = length-append (take start old) given in
    let c = length-take start old in
    let d = length-drop (start + length given) old in
    omega (arith, fits, a, b, c, d)

-- a front that is the whole of the first list
pub whole : {X : Type 0} (n : ℕ) (xs ys : List X) → n ≡ length xs → take n (xs ++ ys) ≡ xs
whole n xs ys all = ap (λ m. take m (xs ++ ys)) all ∙ take-append_seam xs ys

module _ {X Y : Type 0} where
  -- more on each side
  pub zip_append : (xs : List X) (ys : List Y) (more : List X) (others : List Y) → length ys ≡ length xs → zip (xs ++ more) (ys ++ others) ≡ zip xs ys ++ zip more others
  zip_append [] [] more others same = refl
  zip_append [] (b ∷ ys) more others same = absurd (omega (arith, same))
  zip_append (a ∷ xs) [] more others same = absurd (omega (arith, same))
  zip_append (a ∷ xs) (b ∷ ys) more others same = ap (λ l. (a, b) ∷ l) (zip_append xs ys more others (omega (arith, same)))

  pub zip_take : (n : ℕ) (xs : List X) (ys : List Y) → zip (take n xs) (take n ys) ≡ take n (zip xs ys)
  zip_take zero xs ys = refl
  zip_take (suc n) [] ys = refl
  zip_take (suc n) (x ∷ xs) [] = refl
  zip_take (suc n) (x ∷ xs) (y ∷ ys) = ap (λ l. (x, y) ∷ l) (zip_take n xs ys)

  pub length_zipped : (xs : List X) (ys : List Y) → length ys ≡ length xs → length xs ≡ length (zip xs ys)
  length_zipped xs ys same = let both = length-zip xs ys in omega (arith, same, both)

  -- what stands at a place of both
  pub zip_at : (i : ℕ) (xs : List X) (ys : List Y) (x : X) (y : Y) → length ys ≡ length xs → i < length xs → x ≡ get_or xs i x → y ≡ get_or ys i y → Some (x, y) ≡ slice_get (zip xs ys) i
  zip_at i [] ys x y same lt is is_too = absurd (omega arith)
  zip_at i (a ∷ xs) [] x y same lt is is_too = absurd (omega (arith, same))
  zip_at zero (a ∷ xs) (b ∷ ys) x y same lt is is_too = rw (is, is_too) refl
  zip_at (suc i) (a ∷ xs) (b ∷ ys) x y same lt is is_too = zip_at i xs ys x y (omega (arith, same)) (omega arith) is is_too

  -- where one list has nothing, neither have both
  pub zip_none : (i : ℕ) (xs : List X) (ys : List Y) → None ≡ slice_get xs i → None ≡ slice_get (zip xs ys) i
  zip_none i [] ys is = refl
  zip_none i (a ∷ xs) [] is = refl
  zip_none zero (a ∷ xs) (b ∷ ys) is = absurd (none-some a is)
  zip_none (suc i) (a ∷ xs) (b ∷ ys) is = zip_none i xs ys is

  pub zip_none_too : (i : ℕ) (xs : List X) (ys : List Y) → None ≡ slice_get ys i → None ≡ slice_get (zip xs ys) i
  zip_none_too i [] ys is = refl
  zip_none_too i (a ∷ xs) [] is = refl
  zip_none_too zero (a ∷ xs) (b ∷ ys) is = absurd (none-some b is)
  zip_none_too (suc i) (a ∷ xs) (b ∷ ys) is = zip_none_too i xs ys is
