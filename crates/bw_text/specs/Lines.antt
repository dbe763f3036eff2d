-- The lines of a trace.
use Rattle.std.specs.Prelude.{◌≡◌, ◌<◌, ◌≤◌, ℕ, ◌==◌, nat_lt, if◌then◌else◌, Bool, true, false, List, [], ◌∷◌, ◌++◌, length}
use Rattle.std.specs.List.{onto_first, list_any}

-- Byte 10 ends a line. What stands behind the last one is a line too, where it is not empty.
abbrev pub lines_of : List ℕ → List (List ℕ)
lines_of [] = []
lines_of (b ∷ bs) = if b == 10 then [] ∷ lines_of bs else onto_first b (lines_of bs)

-- a byte in front of the first whole line, if there is one
abbrev pub onto_whole : ℕ → List (List ℕ) → List (List ℕ)
onto_whole b [] = []
onto_whole b (line ∷ lines) = (b ∷ line) ∷ lines

-- the lines that byte 10 ends, without what stands behind the last one
abbrev pub whole_lines_of : List ℕ → List (List ℕ)
whole_lines_of [] = []
whole_lines_of (b ∷ bs) = if b == 10 then [] ∷ whole_lines_of bs else onto_whole b (whole_lines_of bs)

-- what stands behind the last byte 10
abbrev pub unfinished_of : List ℕ → List ℕ
unfinished_of [] = []
unfinished_of (b ∷ bs) = if list_any (λ c. c == 10) (b ∷ bs) then unfinished_of bs else b ∷ bs

-- the most bytes of a line
abbrev pub line_max : ℕ
line_max = 8192

-- The lines that can be parsed where the input is cut off: the whole ones, and behind them an unfinished one that is
-- too long already.
abbrev pub parsed_lines_of : List ℕ → List (List ℕ)
parsed_lines_of bytes = whole_lines_of bytes
    ++ (if nat_lt line_max (length (unfinished_of bytes)) then unfinished_of bytes ∷ [] else [])

-- A line at the front of the bytes, and what is behind it. Of a line that is too long, a part that is so too.
abbrev pub IsFirstLine : List ℕ → List ℕ → List ℕ → Type 0
IsFirstLine all line rest =
    (length line ≤ line_max → lines_of all ≡ line ∷ lines_of rest)
    × (line_max < length line → (longer : List ℕ) × (more : List (List ℕ)) × (lines_of all ≡ longer ∷ more)
    × (line_max < length longer))

-- The line that was read with these bytes, whatever follows them. At the end of the input nothing does.
pub record IsLineOf (line read : List ℕ) (ended : Bool) : Type 0 where
  pub first : (more : List ℕ) → (ended ≡ true → more ≡ []) → IsFirstLine (read ++ more) line more
  pub whole : ended ≡ false → length line ≤ line_max → (more : List ℕ) →
      parsed_lines_of (read ++ more) ≡ line ∷ parsed_lines_of more
