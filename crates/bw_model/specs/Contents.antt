-- What an index holds: an ordered map, changed at a key and read over a range of keys.
use Rattle.std.specs.Prelude.{ℕ, Bool, not, ◌&&◌, true, List, Option, Some, None, filter, take, reverse}
use Rattle.std.specs.Ordering.{is_lt}
use Rattle.std.specs.FinMap.{FinMap, entries, insert, remove}
use Rattle.bw_key.specs.Order.{KeyBytes, key_cmp}

-- a value at each of some keys, in the order of the keys
abbrev pub Contents : Type 0 → Type 0
Contents V = FinMap key_cmp V

-- the map with this value, or none, at the key
abbrev pub set_at : {V : Type 0} → Contents V → KeyBytes → Option V → Contents V
set_at m key None = remove m key
set_at m key (Some v) = insert m key v

-- below the upper end of a range, if it has one
abbrev pub is_below_end : Option KeyBytes → KeyBytes → Bool
is_below_end None key = true
is_below_end (Some to) key = is_lt (key_cmp key to)

-- from the lower end on, and below the upper one
abbrev pub is_in_range : KeyBytes → Option KeyBytes → KeyBytes → Bool
is_in_range from to key = not (is_lt (key_cmp key from)) && is_below_end to key

abbrev pub is_pair_in_range : {V : Type 0} → KeyBytes → Option KeyBytes → KeyBytes × V → Bool
is_pair_in_range from to pair = is_in_range from to pair.0

-- the pairs of a range, in the order of their keys
abbrev pub pairs_of_range : {V : Type 0} → Contents V → KeyBytes → Option KeyBytes → List (KeyBytes × V)
pairs_of_range m from to = filter (is_pair_in_range from to) (entries m)

-- the first of them, and no more than so many
abbrev pub first_of_range : {V : Type 0} → Contents V → KeyBytes → Option KeyBytes → ℕ → List (KeyBytes × V)
first_of_range m from to most = take most (pairs_of_range m from to)

-- the last of them, the greatest key first, and no more than so many
abbrev pub last_of_range : {V : Type 0} → Contents V → KeyBytes → Option KeyBytes → ℕ → List (KeyBytes × V)
last_of_range m from to most = take most (reverse (pairs_of_range m from to))
