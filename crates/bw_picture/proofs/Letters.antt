-- How many letters a key has as it is written.
use Rattle.std.proofs.Common.{◌≡◌, ℕ, ◌+◌, ◌*◌, false, List, length, arith}
use Rattle.hex.proofs.HexLemmas.{length-encode_with}
use Rattle.hex.specs.Hex.{lower_digits}
use Rattle.bw_text.specs.Spelling.{is_plain_word, spelled}

-- one for the `%`, and two digits for each byte
pub letters_of_digits : (key : List ℕ) → is_plain_word key ≡ false → 1 + 2 * length key ≡ length (spelled key)
letters_of_digits key plain = let digits = length-encode_with lower_digits key in rw plain (omega (arith, digits))
