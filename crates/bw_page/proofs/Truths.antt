-- What the truth of a test says, and of both sides of an `&&`.
use Rattle.std.proofs.Common.{◌≡◌, Bool, true, false, not, ◌&&◌, T, refl, sym, subst}

pub holds : (a : Bool) → T a → a ≡ true
holds true h = refl
holds false h = absurd h

pub true_holds : (a : Bool) → a ≡ true → T a
true_holds a e = subst T (sym e) tt

pub holds_not : (a : Bool) → T (not a) → a ≡ false
holds_not true h = absurd h
holds_not false h = refl

pub not_holds : (a : Bool) → a ≡ false → T (not a)
not_holds a e = subst (λ b. T (not b)) (sym e) tt

pub left_of : (a b : Bool) → T (a && b) → T a
left_of true b h = tt
left_of false b h = absurd h

pub right_of : (a b : Bool) → T (a && b) → T b
right_of true b h = h
right_of false b h = absurd h

pub both_of : (a b : Bool) → T a → T b → T (a && b)
both_of true b p q = q
both_of false b p q = absurd p
