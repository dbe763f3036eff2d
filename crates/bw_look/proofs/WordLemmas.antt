-- Mapping words of some pages, put in their places one after another.
use Rattle.std.proofs.Common.{◌≡◌, ℕ, suc, ◌+◌, ◌-◌, ◌<◌, ◌≤◌, min, add-one, List, [], ◌∷◌, length, drop, get_or, set, refl, sym, ap, ◌∙◌, arith}
use Rattle.std.proofs.lemmas.List.{length-drop}
use Rattle.std.proofs.Math.Seq.{drop-cons}
use Rattle.bw_look.specs.Words.{put_words}

-- one page more has its word
pub put_next : (hs ps ws : List ℕ) (i p : ℕ) → i < length ps → i < length ws → p ≡ get_or ps i p →
    put_words hs (drop i ps) (drop i ws) ≡ put_words (set hs p (get_or ws i 0)) (drop (i + 1) ps) (drop (i + 1) ws)
put_next hs ps ws i p in_ps in_ws is =
    ap (λ (l : List ℕ). put_words hs l (drop i ws)) (drop-cons ps i p in_ps ∙ ap (λ (q : ℕ). q ∷ drop (suc i) ps) (sym is))
    ∙ ap (λ (l : List ℕ). put_words hs (p ∷ drop (suc i) ps) l) (drop-cons ws i 0 in_ws)
    ∙ rw add-one refl

-- behind the last page or word nothing is put
pub put_none : (hs ps ws : List ℕ) (i : ℕ) → min (length ps) (length ws) ≤ i → put_words hs (drop i ps) (drop i ws) ≡ hs
put_none hs ps ws i le = by (drop i ps) (drop i ws) (length-drop i ps) (length-drop i ws)
  where
    by : (qs xs : List ℕ) → length qs ≡ length ps - i → length xs ≡ length ws - i → put_words hs qs xs ≡ hs
    by [] xs a b = refl
    by (q ∷ qs) [] a b = refl
    by (q ∷ qs) (x ∷ xs) a b = absurd (omega (arith, le, a, b))
