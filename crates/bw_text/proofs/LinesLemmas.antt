-- Lines at the front of bytes.
use Rattle.std.proofs.Common.{◌≡◌, ℕ, ◌<◌, ◌≤◌, Bool, true, false, cond, ◌||◌, ltb, List, [], ◌∷◌, ◌++◌, length, eqb, refl, sym, ap, ◌∙◌, arith, append_assoc, append-nil, length-append}
use Rattle.std.specs.Prelude.{◌==◌}
use Rattle.std.proofs.lemmas.Bool.{le-ltb}
use Rattle.std.specs.List.{onto_first, list_any}
use Rattle.bw_text.specs.Lines.{lines_of, onto_whole, whole_lines_of, unfinished_of, parsed_lines_of, IsLineOf}

-- no byte ends a line
abbrev pub IsOneLine : List ℕ → Type 0
IsOneLine [] = Unit {0}
IsOneLine (b ∷ bs) = (eqb b 10 ≡ false) × IsOneLine bs

pub one_line_more : (line : List ℕ) (b : ℕ) → IsOneLine line → eqb b 10 ≡ false → IsOneLine (line ++ b ∷ [])
one_line_more [] b one other = (other, tt)
one_line_more (c ∷ line) b one other = (one.0, one_line_more line b one.1 other)

-- ---- lines

-- a byte in front of lines
onto : (b : ℕ) (bs : List ℕ) (l : List ℕ) (ls : List (List ℕ)) → eqb b 10 ≡ false → lines_of bs ≡ l ∷ ls → lines_of (b ∷ bs) ≡ (b ∷ l) ∷ ls
onto b bs l ls other e = ap (λ t. cond t ([] ∷ lines_of bs) (onto_first b (lines_of bs))) other ∙ ap (onto_first b) e

lines_front : (line rest : List ℕ) → IsOneLine line → lines_of (line ++ 10 ∷ rest) ≡ line ∷ lines_of rest
lines_front [] rest one = refl
lines_front (b ∷ line) rest one = onto b (line ++ 10 ∷ rest) line (lines_of rest) one.0 (lines_front line rest one.1)

lines_last : (b : ℕ) (line : List ℕ) → IsOneLine (b ∷ line) → lines_of (b ∷ line) ≡ (b ∷ line) ∷ []
lines_last b [] one = ap (λ t. cond t ([] ∷ []) ((b ∷ []) ∷ [])) one.0
lines_last b (c ∷ line) one = onto b (c ∷ line) (c ∷ line) [] one.0 (lines_last c line one.1)

-- a front of a line
lines_longer : (b : ℕ) (line rest : List ℕ) → IsOneLine (b ∷ line) → (front : List ℕ) × (more : List (List ℕ)) × (lines_of ((b ∷ line) ++ rest) ≡ ((b ∷ line) ++ front) ∷ more)
lines_longer b [] rest one = by (lines_of rest) refl
  where
    by : (ls : List (List ℕ)) → lines_of rest ≡ ls → (front : List ℕ) × (more : List (List ℕ)) × (lines_of (b ∷ rest) ≡ (b ∷ front) ∷ more)
    by [] e = ([], [], ap (λ t. cond t ([] ∷ lines_of rest) (onto_first b (lines_of rest))) one.0 ∙ ap (onto_first b) e)
    by (l ∷ ls) e = (l, ls, onto b rest l ls one.0 e)
lines_longer b (c ∷ line) rest one =
    let more = lines_longer c line rest one.1 in
    (more.0, more.1, onto b ((c ∷ line) ++ rest) ((c ∷ line) ++ more.0) more.1 one.0 more.2)

-- ---- whole lines

onto_a_whole : (b : ℕ) (bs : List ℕ) (ls : List (List ℕ)) → eqb b 10 ≡ false → whole_lines_of bs ≡ ls → whole_lines_of (b ∷ bs) ≡ onto_whole b ls
onto_a_whole b bs ls other e = ap (λ t. cond t ([] ∷ whole_lines_of bs) (onto_whole b (whole_lines_of bs))) other ∙ ap (onto_whole b) e

whole_front : (line rest : List ℕ) → IsOneLine line → whole_lines_of (line ++ 10 ∷ rest) ≡ line ∷ whole_lines_of rest
whole_front [] rest one = refl
whole_front (b ∷ line) rest one = onto_a_whole b (line ++ 10 ∷ rest) (line ∷ whole_lines_of rest) one.0 (whole_front line rest one.1)

-- bytes that no byte 10 ends are no whole line
whole_none : (line : List ℕ) → IsOneLine line → whole_lines_of line ≡ []
whole_none [] one = refl
whole_none (b ∷ line) one = onto_a_whole b line [] one.0 (whole_none line one.1)

-- ---- what is unfinished

has_end : (line rest : List ℕ) → list_any (λ c. c == 10) (line ++ 10 ∷ rest) ≡ true
has_end [] rest = refl
has_end (b ∷ line) rest = or_true (b == 10) (list_any (λ c. c == 10) (line ++ 10 ∷ rest)) (has_end line rest)
  where
    or_true : (a b : Bool) → b ≡ true → (a || b) ≡ true
    or_true true b e = refl
    or_true false b e = e

has_none : (line : List ℕ) → IsOneLine line → list_any (λ c. c == 10) line ≡ false
has_none [] one = refl
has_none (b ∷ line) one = ap (λ t. t || list_any (λ c. c == 10) line) one.0 ∙ has_none line one.1

unfinished_front : (line rest : List ℕ) → unfinished_of (line ++ 10 ∷ rest) ≡ unfinished_of rest
unfinished_front [] rest = refl
unfinished_front (b ∷ line) rest =
    ap (λ t. cond t (unfinished_of (line ++ 10 ∷ rest)) (b ∷ (line ++ 10 ∷ rest))) (has_end (b ∷ line) rest) ∙ unfinished_front line rest

unfinished_all : (line : List ℕ) → IsOneLine line → unfinished_of line ≡ line
unfinished_all [] one = refl
unfinished_all (b ∷ line) one = ap (λ t. cond t (unfinished_of line) (b ∷ line)) (has_none (b ∷ line) one)

parsed_front : (line rest : List ℕ) → IsOneLine line → parsed_lines_of (line ++ 10 ∷ rest) ≡ line ∷ parsed_lines_of rest
parsed_front line rest one =
    ap (λ (u : List ℕ). whole_lines_of (line ++ 10 ∷ rest) ++ cond (ltb 8192 (length u)) (u ∷ []) []) (unfinished_front line rest)
    ∙ ap (λ (ls : List (List ℕ)). ls ++ cond (ltb 8192 (length (unfinished_of rest))) (unfinished_of rest ∷ []) []) (whole_front line rest one)

-- bytes that no byte 10 ends are no line to parse, unless they are too many
pub parsed_none : (line : List ℕ) → IsOneLine line → length line ≤ 8192 → parsed_lines_of line ≡ []
parsed_none line one short =
    ap (λ (u : List ℕ). whole_lines_of line ++ cond (ltb 8192 (length u)) (u ∷ []) []) (unfinished_all line one)
    ∙ ap (λ (ls : List (List ℕ)). ls ++ cond (ltb 8192 (length line)) (line ∷ []) []) (whole_none line one)
    ∙ ap (λ t. cond t (line ∷ []) []) (le-ltb 8192 (length line) short)

-- ---- what reading a line gives

-- byte 10 ends a line
pub ended_line : (line : List ℕ) (ended : Bool) → IsOneLine line → length line ≤ 8192 → IsLineOf line (line ++ 10 ∷ []) ended
ended_line line ended one short = record {
  first = λ more at_end.
      (λ le. ap lines_of (append_assoc line (10 ∷ []) more) ∙ lines_front line more one, λ lt. absurd (omega (arith, lt, short)));
  whole = λ going le more. ap parsed_lines_of (append_assoc line (10 ∷ []) more) ∙ parsed_front line more one;
}

-- so does the end of the input, where the line isn't empty
pub last_line : (line : List ℕ) (ended : Bool) → IsOneLine line → 0 < length line → length line ≤ 8192 → ended ≡ true → IsLineOf line line ended
last_line [] ended one some short end = absurd (omega arith)
last_line (b ∷ line) ended one some short end = record {
  first = λ more at_end. (
    λ le. ap (λ m. lines_of ((b ∷ line) ++ m)) (at_end end) ∙ ap lines_of (append-nil (b ∷ line)) ∙ lines_last b line one
        ∙ ap (λ m. (b ∷ line) ∷ lines_of m) (sym (at_end end)),
    λ lt. absurd (omega (arith, lt, short)),
  );
  whole = λ going le more. absurd (no_both going);
}
  where
    no_both : ended ≡ false → ⊥
    no_both going = cc (going, end)

-- and a line of more bytes is too long
pub long_line : (line : List ℕ) (ended : Bool) → IsOneLine line → length line ≡ 8193 → IsLineOf line line ended
long_line [] ended one long = absurd (omega (arith, long))
long_line (b ∷ line) ended one long = record {
  first = λ more at_end.
      let longer = lines_longer b line more one in (
        λ le. absurd (omega (arith, long, le)),
        λ lt. ((b ∷ line) ++ longer.0, longer.1, longer.2, omega (arith, long, length-append (b ∷ line) longer.0)),
      );
  whole = λ going le more. absurd (omega (arith, long, le));
}
