-- Words for a sorted list of pairs.
use Rattle.std.specs.Prelude.{ℕ, ◌+◌, Bool, ◌&&◌, nat_lt, List, [], ◌∷◌, ◌++◌, length, if◌then◌else◌}
use Rattle.std.specs.Ordering.{is_lt}
use Rattle.bw_key.specs.Order.{KeyBytes, key_cmp}

-- how many pairs at the front have a smaller key
abbrev pub place_of : {V : Type 0} → KeyBytes → List (KeyBytes × V) → ℕ
place_of key [] = 0
place_of key (pair ∷ pairs) = if is_lt (key_cmp pair.0 key) then place_of key pairs + 1 else 0

-- the list with one more element, where that passes the test and the list is not full
abbrev pub with_pick : {X : Type 0} → (X → Bool) → ℕ → List X → X → List X
with_pick test most xs x = if nat_lt (length xs) most && test x then xs ++ x ∷ [] else xs
