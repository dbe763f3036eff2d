-- What a line of a trace means.
use Rattle.std.specs.Prelude.{◌≡◌, ℕ, ◌+◌, ◌-◌, ◌*◌, ◌^◌, Bool, not, ◌&&◌, ◌==◌, false, nat_lt, nat_le, nat_eq, if◌then◌else◌, List, [], ◌∷◌, length, Option, Some, None, Result, Ok, Err, codes}
use Rattle.std.specs.Char.{is_ascii_digit}
use Rattle.std.specs.Str.Lines.{strip_carriage_return}
use Rattle.std.specs.List.{slice_split, filter, list_all}
use Rattle.std.specs.Cmp.Lexicographic.{pointwise}
use Rattle.bw_key.specs.Order.{KeyBytes}
use Rattle.bw_model.specs.Values.{ValueBytes}
use Rattle.bw_model.specs.declared.operations.Op.TheVariants as op
use Rattle.bw_text.specs.Lines.{line_max, IsLineOf}
use Rattle.bw_text.specs.Spelling.{spelled_by}
use Rattle.bw_text.specs.declared.faults.Cause.{Cause}
use Rattle.bw_text.specs.declared.faults.Cause.TheVariants.{LongLine, Verb, Words, KeyText, KeyLength, Number, ValueText, ValueLength}
use Rattle.bw_text.specs.declared.parse.Keyword.{Keyword}
use Rattle.bw_text.specs.declared.parse.Keyword.TheVariants.{Get, Insert, Upsert, Update, Delete, SwapIf, Scan, Rscan, Go, Bw}
use Rattle.bw_text.specs.declared.parse.Meaning.{Meaning}
use Rattle.bw_text.specs.declared.parse.Meaning.TheVariants.{Nothing, Operation, EndsBatch, StartsVersion2, Faulty}
use Rattle.bw_text.specs.declared.places.Place.{Place}
use Rattle.bw_text.specs.declared.places.Version.{Version}
use Rattle.bw_text.specs.declared.places.Version.TheVariants.{First, Second}

-- the words, which byte 32 parts
abbrev pub words_of : List ℕ → List (List ℕ)
words_of line = filter (λ word. not (length word == 0)) (slice_split (λ b. b == 32) line)

-- words one after another: the first that is faulty decides
infixl 10 ◌>>=◌
abbrev pub ◌>>=◌ : {A B : Type 0} → Result A Cause → (A → Result B Cause) → Result B Cause
Ok x >>= f = f x
Err cause >>= f = Err cause

-- ---- a word

-- bytes that were spelled, and no more than so many
abbrev pub no_more_than : ℕ → Cause → Cause → Option (List ℕ) → Result (List ℕ) Cause
no_more_than most badly too_long None = Err badly
no_more_than most badly too_long (Some bytes) = if nat_lt most (length bytes) then Err too_long else Ok bytes

-- a key has no more than 64 bytes
abbrev pub key_of : List ℕ → Result KeyBytes Cause
key_of word = no_more_than 64 KeyText KeyLength (spelled_by word)

-- the number that digits stand for, behind other digits
abbrev pub number_behind : ℕ → List ℕ → ℕ
number_behind n [] = n
number_behind n (b ∷ bs) = number_behind (10 * n + (b - 48)) bs

-- 1 to 20 digits whose number fits in 64 bits
abbrev pub is_number : List ℕ → Bool
is_number word = not (length word == 0)
    && (nat_le (length word) 20 && (list_all is_ascii_digit word && nat_lt (number_behind 0 word) (2 ^ 64)))

abbrev pub number_of : List ℕ → Result ℕ Cause
number_of word = if is_number word then Ok (number_behind 0 word) else Err Number

-- digits without the zeros in front, but for a last digit
abbrev pub without_leading_zeros : List ℕ → List ℕ
without_leading_zeros [] = []
without_leading_zeros (b ∷ []) = b ∷ []
without_leading_zeros (b ∷ c ∷ bs) = if b == 48 then without_leading_zeros (c ∷ bs) else b ∷ c ∷ bs

-- In version 1 a value is a number, kept as its decimal text. In version 2 it is spelled like a key, and has no more
-- than 1,024 bytes.
abbrev pub value_of : Version → List ℕ → Result ValueBytes Cause
value_of First word = if is_number word then Ok (without_leading_zeros word) else Err Number
value_of Second word = no_more_than 1024 ValueText ValueLength (spelled_by word)

abbrev pub is_word : List ℕ → List ℕ → Bool
is_word = pointwise nat_eq

-- the upper end of a range: a key, or `*` for none
abbrev pub end_of : List ℕ → Result (Option KeyBytes) Cause
end_of word = if is_word word (codes "*") then Ok None else (key_of word >>= λ key. Ok (Some key))

-- ---- the words behind a keyword

-- `K`
abbrev pub key_alone : List (List ℕ) → Result KeyBytes Cause
key_alone (k ∷ []) = key_of k
key_alone _ = Err Words

-- `K V`
abbrev pub key_and_value : Version → List (List ℕ) → Result (KeyBytes × ValueBytes) Cause
key_and_value version (k ∷ v ∷ []) = do
  key ← key_of k
  value ← value_of version v
  Ok (key, value)
key_and_value version _ = Err Words

-- `K V V`
abbrev pub key_and_values : Version → List (List ℕ) → Result (KeyBytes × ValueBytes × ValueBytes) Cause
key_and_values version (k ∷ v ∷ w ∷ []) = do
  key ← key_of k
  old ← value_of version v
  new ← value_of version w
  Ok (key, old, new)
key_and_values version _ = Err Words

-- `K T N`
abbrev pub range_of : List (List ℕ) → Result (KeyBytes × Option KeyBytes × ℕ) Cause
range_of (k ∷ t ∷ n ∷ []) = do
  from ← key_of k
  to ← end_of t
  most ← number_of n
  Ok (from, to, most)
range_of _ = Err Words

-- ---- a line

-- Behind `bw`: 2, on line 1 alone. Any other line that begins with `bw` has no known keyword.
abbrev pub heading_of : Place → List (List ℕ) → Result Meaning Cause
heading_of place (n ∷ []) = if place.lines == 0 && is_word n (codes "2") then Ok StartsVersion2 else Err Verb
heading_of place _ = Err Verb

-- behind `go`: nothing
abbrev pub go_of : List (List ℕ) → Result Meaning Cause
go_of [] = Ok EndsBatch
go_of (w ∷ more) = Err Words

abbrev pub keyword_of : List ℕ → Option Keyword
keyword_of word =
    if is_word word (codes "get") then Some Get
    else if is_word word (codes "insert") then Some Insert
    else if is_word word (codes "upsert") then Some Upsert
    else if is_word word (codes "update") then Some Update
    else if is_word word (codes "delete") then Some Delete
    else if is_word word (codes "swapif") then Some SwapIf
    else if is_word word (codes "scan") then Some Scan
    else if is_word word (codes "rscan") then Some Rscan
    else if is_word word (codes "go") then Some Go
    else if is_word word (codes "bw") then Some Bw
    else None

-- a keyword and the words behind it
abbrev pub meaning_behind : Place → Option Keyword → List (List ℕ) → Result Meaning Cause
meaning_behind place None rest = Err Verb
meaning_behind place (Some Get) rest = key_alone rest >>= λ key. Ok (Operation (op.Get key))
meaning_behind place (Some Insert) rest = key_and_value place.version rest >>= λ p. Ok (Operation (op.Insert p.0 p.1))
meaning_behind place (Some Upsert) rest = key_and_value place.version rest >>= λ p. Ok (Operation (op.Upsert p.0 p.1))
meaning_behind place (Some Update) rest = key_and_value place.version rest >>= λ p. Ok (Operation (op.Update p.0 p.1))
meaning_behind place (Some Delete) rest = key_alone rest >>= λ key. Ok (Operation (op.Delete key))
meaning_behind place (Some SwapIf) rest =
    key_and_values place.version rest >>= λ p. Ok (Operation (op.SwapIf p.0 p.1 p.2))
meaning_behind place (Some Scan) rest = range_of rest >>= λ r. Ok (Operation (op.Scan r.0 r.1 r.2))
meaning_behind place (Some Rscan) rest = range_of rest >>= λ r. Ok (Operation (op.Rscan r.0 r.1 r.2))
meaning_behind place (Some Go) rest = go_of rest
meaning_behind place (Some Bw) rest = heading_of place rest

-- a comment's first word begins with `#`
abbrev pub is_comment : List ℕ → Bool
is_comment [] = false
is_comment (b ∷ bs) = b == 35

-- the first word says what the others are
abbrev pub meaning_of_words : Place → List (List ℕ) → Result Meaning Cause
meaning_of_words place [] = Ok Nothing
meaning_of_words place (word ∷ rest) = if is_comment word then Ok Nothing
    else meaning_behind place (keyword_of word) rest

abbrev pub or_faulty : Result Meaning Cause → Meaning
or_faulty (Ok meaning) = meaning
or_faulty (Err cause) = Faulty cause

-- A line is tested for its length first. One byte 13 at its end is taken away.
abbrev pub meaning_of : Place → List ℕ → Meaning
meaning_of place line =
    if nat_lt line_max (length line) then Faulty LongLine
    else or_faulty (meaning_of_words place (words_of (strip_carriage_return line)))

-- the version that a line leaves
abbrev pub version_behind : Version → Meaning → Version
version_behind version StartsVersion2 = Second
version_behind version _ = version

-- where the line behind it stands
abbrev pub place_behind : Place → Meaning → Place
place_behind place meaning = record { lines = place.lines + 1; version = version_behind place.version meaning }

-- where a trace begins
abbrev pub first_place : Place
first_place = record { lines = 0; version = First }

-- the bytes that were read are a line of this meaning there, whatever follows them
abbrev pub IsLineMeaning : Place → List ℕ → Meaning → Bool → Type 0
IsLineMeaning place read meaning ended = (line : List ℕ) × IsLineOf line read ended × (meaning ≡ meaning_of place line)
