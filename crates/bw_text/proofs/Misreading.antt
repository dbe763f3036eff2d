-- Faulty words, one behind another.
use Rattle.std.proofs.Common.{◌≡◌, ◌<◌, ◌≤◌, List, [], ◌∷◌, length, get_or, Result, Err, refl, ap, arith}
use Rattle.bw_text.specs.declared.faults.Cause.{Cause}
use Rattle.bw_text.specs.declared.line_words.Misread.{Misread}
use Rattle.bw_text.specs.declared.line_words.Misread.TheVariants.{Faulty, Memory}
use Rattle.bw_text.specs.Grammar.{◌>>=◌}
use Rattle.bw_text.specs.Misreads.{Says}

-- what is wrong with a word is wrong with what stands behind it
pub wrong_first : {X Y : Type 0} (e : Misread) (said : Result X Cause) (f : X → Result Y Cause) → Says {X = X} (Err e) said → Says {X = Y} (Err e) (said >>= f)
wrong_first (Faulty cause) said f wrong = ap (λ s. s >>= f) wrong
wrong_first Memory said f wrong = tt

-- words, where there are two
pub two_words : {A : Type 0} (ws : List A) (d : A) → 2 ≤ length ws → length ws < 3 → ws ≡ get_or ws 0 d ∷ get_or ws 1 d ∷ []
two_words [] d least below = absurd (omega arith)
two_words (a ∷ []) d least below = absurd (omega arith)
two_words (a ∷ b ∷ []) d least below = refl
two_words (a ∷ b ∷ c ∷ ws) d least below = absurd (omega arith)

-- and where there are three
pub three_words : {A : Type 0} (ws : List A) (d : A) → 3 ≤ length ws → length ws < 4 → ws ≡ get_or ws 0 d ∷ get_or ws 1 d ∷ get_or ws 2 d ∷ []
three_words [] d least below = absurd (omega arith)
three_words (a ∷ []) d least below = absurd (omega arith)
three_words (a ∷ b ∷ []) d least below = absurd (omega arith)
three_words (a ∷ b ∷ c ∷ []) d least below = refl
three_words (a ∷ b ∷ c ∷ e ∷ ws) d least below = absurd (omega arith)
