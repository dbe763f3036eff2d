-- The first bytes of a key as one number: most keys are compared by it alone.
use Rattle.std.specs.Prelude.{ℕ, ◌+◌, ◌*◌, ◌<◌, zero, suc, List, [], ◌∷◌, slice_index_or}
use Rattle.bw_key.specs.Order.{KeyBytes}

-- a number to the base 256 that is continued by the first n bytes of a key, with zeros behind a shorter one
abbrev pub continued_by : ℕ → ℕ → KeyBytes → ℕ
continued_by zero number bytes = number
continued_by (suc n) number [] = continued_by n (number * 256) []
continued_by (suc n) number (b ∷ bytes) = continued_by n (number * 256 + b) bytes

-- the first eight bytes of a key as one number
abbrev pub key_prefix : KeyBytes → ℕ
key_prefix = continued_by 8 0

-- each of them is a byte
abbrev pub IsBytes : List ℕ → Type 0
IsBytes bytes = (k : ℕ) → slice_index_or bytes k 0 < 256
