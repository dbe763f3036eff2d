-- The pages of the levels above the leaves, level by level.
use Rattle.std.proofs.Common.{◌≡◌, ℕ, zero, suc, ◌+◌, ◌<◌, List, [], ◌∷◌, ◌++◌, length, take, drop, refl, sym, ap, ◌∙◌, arith}
use Rattle.std.proofs.lemmas.List.{take_all}
use Rattle.std.specs.List.{concat}
use Rattle.bw_level.specs.Levels.{row}

nil_right : (l : List ℕ) → l ++ [] ≡ l
nil_right [] = refl
nil_right (x ∷ l) = ap (λ (m : List ℕ). x ∷ m) (nil_right l)

behind : (xs ys zs : List ℕ) → xs ++ (ys ++ zs) ≡ (xs ++ ys) ++ zs
behind [] ys zs = refl
behind (x ∷ xs) ys zs = ap (λ (m : List ℕ). x ∷ m) (behind xs ys zs)

one_level_more : (levels : List (List ℕ)) (n : ℕ) → n < length levels → concat (take (suc n) levels) ≡ concat (take n levels) ++ row levels n
one_level_more [] n within = absurd (omega (arith, within))
one_level_more (ps ∷ levels) zero within = nil_right ps
one_level_more (ps ∷ levels) (suc n) within = ap (λ (m : List ℕ). ps ++ m) (one_level_more levels n (omega (arith, within))) ∙ behind ps (concat (take n levels)) (row levels n)

-- with the pages of one level more
pub with_level : (levels : List (List ℕ)) (n : ℕ) (pages more new : List ℕ) → n + 1 < length levels → pages ≡ concat (take n (drop 1 levels)) → more ≡ row levels (n + 1) → new ≡ pages ++ more → new ≡ concat (take (n + 1) (drop 1 levels))
with_level [] n pages more new within so_far is added = absurd (omega (arith, within))
with_level (ps ∷ levels) n pages more new within so_far is added = goal
  where
    goal : new ≡ concat (take (n + 1) levels)
    goal = added ∙ ap (λ (l : List ℕ). l ++ more) so_far ∙ ap (λ (l : List ℕ). concat (take n levels) ++ l) (is ∙ ap (row (ps ∷ levels)) (next n)) ∙ sym (one_level_more levels n (omega (arith, within))) ∙ ap (λ m. concat (take m levels)) (sym (next n))
      where
        next : (n : ℕ) → n + 1 ≡ suc n
        next n = omega arith

-- and of all
pub all_levels : (levels : List (List ℕ)) (top : ℕ) (pages : List ℕ) → top + 1 ≡ length levels → pages ≡ concat (take top (drop 1 levels)) → pages ≡ concat (drop 1 levels)
all_levels [] top pages is so_far = absurd (omega (arith, is))
all_levels (ps ∷ levels) top pages is so_far = so_far ∙ ap concat (take_all top levels (omega (arith, is)))
