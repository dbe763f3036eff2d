use Rattle.std.proofs.Common.{◌≡◌, ◌∙◌, ◌==◌, ◌∷◌, [], false, ℕ, List, ap, drop, get_or, length, refl, sym}
use Rattle.bw_packed.proofs.iter.IterIterator.next.Goals as goal

first_rest : {X : Type 0} (xs : List X) (d : X) → (length xs == 0) ≡ false → xs ≡ get_or xs 0 d ∷ drop 1 xs
first_rest [] d some = cc
first_rest (x ∷ xs) d some = refl

pub returns-clause-steps : goal.returns-clause-steps
returns-clause-steps c =
    let run = c.self.inside.rest in
    sym c.self.view_is ∙ first_rest run ([], []) (sym c.is_empty.ensures ∙ c.if-is_empty.false)
    ∙ ap (λ (k : List ℕ). (k, (get_or run 0 ([], [])).1) ∷ drop 1 run) (sym (c.key_at.ensures ([], [])))
    ∙ ap (λ (v : List ℕ). (c.key_at.result.now, v) ∷ drop 1 run) (sym (c.value_at.ensures ([], [])))
    ∙ ap (λ (l : List (List ℕ × List ℕ)). (c.key_at.result.now, c.value_at.result.now) ∷ l) (sym c.split_at-first.ensures.back)
