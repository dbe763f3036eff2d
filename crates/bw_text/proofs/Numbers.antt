-- The number of digits.
use Rattle.std.proofs.Common.{◌≡◌, ℕ, ◌+◌, ◌-◌, ◌*◌, ◌<◌, ◌≤◌, List, [], ◌∷◌, length, get_or, drop, sym, ◌∙◌, arith}
use Rattle.std.proofs.lemmas.List.{at_drop_more}
use Rattle.bw_text.specs.Grammar.{number_behind}

-- more digits make no smaller number
pub number_behind_le : (n : ℕ) (bs : List ℕ) → n ≤ number_behind n bs
number_behind_le n [] = omega arith
number_behind_le n (b ∷ bs) = let more = number_behind_le (10 * n + (b - 48)) bs in omega (arith, more)

-- one digit further
pub digit_more : (word : List ℕ) (i n : ℕ) → i < length word → number_behind n (drop i word) ≡ number_behind 0 word → number_behind (10 * n + (get_or word i 0 - 48)) (drop (i + 1) word) ≡ number_behind 0 word
digit_more word i n lt e = sym (at_drop_more (number_behind n) word i 0 lt) ∙ e

pub digit_le : (word : List ℕ) (i n : ℕ) → i < length word → number_behind n (drop i word) ≡ number_behind 0 word → 10 * n + (get_or word i 0 - 48) ≤ number_behind 0 word
digit_le word i n lt e = omega (arith, digit_more word i n lt e, number_behind_le (10 * n + (get_or word i 0 - 48)) (drop (i + 1) word))
