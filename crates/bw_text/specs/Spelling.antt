-- How keys and values are spelled.
use Rattle.std.specs.Prelude.{ℕ, Bool, not, ◌||◌, ◌&&◌, ◌==◌, nat_le, if◌then◌else◌, List, [], ◌∷◌, length, codes, Option, Some, None}
use Rattle.std.specs.List.{list_all}
use Rattle.std.specs.Result.{result_ok}
use Rattle.hex.specs.Hex.{encode_lower, decode_of}

abbrev pub is_between : ℕ → ℕ → ℕ → Bool
is_between low high b = nat_le low b && nat_le b high

-- a letter, a digit, `_`, `.` or `-`
abbrev pub is_plain : ℕ → Bool
is_plain b = is_between 65 90 b || is_between 97 122 b || is_between 48 57 b || b == 95 || b == 46 || b == 45

-- some bytes, and all plain
abbrev pub is_plain_word : List ℕ → Bool
is_plain_word bytes = not (length bytes == 0) && list_all is_plain bytes

-- Bytes are printed as they are, where there are some and all are plain. Else `%` and lower-case digits stand for them.
abbrev pub spelled : List ℕ → List ℕ
spelled bytes = if is_plain_word bytes then bytes else 37 ∷ encode_lower bytes

-- where a range of keys ends: at a key, or nowhere
abbrev pub high_text : Option (List ℕ) → List ℕ
high_text None = codes "*"
high_text (Some key) = spelled key

-- The bytes that a word spells: behind `%` those that pairs of hexadecimal digits in either case stand for, and else its
-- own, where all are plain.
abbrev pub spelled_by : List ℕ → Option (List ℕ)
spelled_by [] = None
spelled_by (b ∷ bs) = if b == 37 then result_ok (decode_of bs) else if is_plain_word (b ∷ bs) then Some (b ∷ bs)
    else None
