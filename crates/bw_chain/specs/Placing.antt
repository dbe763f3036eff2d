-- Lists that get an entry at a place, which may be the one behind all others.
use Rattle.std.specs.Prelude.{ℕ, zero, suc, List, [], ◌∷◌}

-- the list with this entry at the place, which is at most the list's length
abbrev pub put_at : {X : Type 0} → List X → ℕ → X → List X
put_at [] i x = x ∷ []
put_at (y ∷ ys) zero x = x ∷ ys
put_at (y ∷ ys) (suc i) x = y ∷ put_at ys i x
