-- What is printed is read back as itself.
use Rattle.std.specs.Prelude.{◌≡◌, ℕ, ◌<◌, ◌≤◌, ◌^◌, List, length, Ok}
use Rattle.std.specs.Fmt.{decimal}
use Rattle.hex.specs.Hex.{IsBytes}
use Rattle.bw_text.specs.Grammar.{key_of, value_of, number_of}
use Rattle.bw_text.specs.Spelling.{spelled}
use Rattle.bw_text.specs.declared.places.Version.TheVariants.{First, Second}

abbrev pub KeysAreReadBack : Type 0
KeysAreReadBack = (key : List ℕ) → IsBytes key → length key ≤ 64 → key_of (spelled key) ≡ Ok key

-- a value of version 2
abbrev pub ValuesAreReadBack : Type 0
ValuesAreReadBack = (value : List ℕ) → IsBytes value → length value ≤ 1024 → value_of Second (spelled value) ≡ Ok value

abbrev pub NumbersAreReadBack : Type 0
NumbersAreReadBack = (n : ℕ) → n < 2 ^ 64 → number_of (decimal n) ≡ Ok n

-- a value of version 1, which is the text of a number, and is printed as that text
abbrev pub NumberValuesAreReadBack : Type 0
NumberValuesAreReadBack = (n : ℕ) → n < 2 ^ 64 → (spelled (decimal n) ≡ decimal n)
    × (value_of First (decimal n) ≡ Ok (decimal n))
