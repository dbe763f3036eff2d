-- Pairs that are compared one by one.
use Rattle.std.proofs.Common.{◌≡◌, ℕ, ◌+◌, ◌<◌, ◌≤◌, Bool, true, false, ◌&&◌, List, [], ◌∷◌, length, drop, get_or, sym, ap, ◌∙◌}
use Rattle.std.proofs.lemmas.List.{at_drop_more, drop_all}
use Rattle.bw_packed.specs.Pairs.{pair_eq, pairs_eq}

-- from a place on two lists are equal where the pairs there are, and those behind
next_same : (xs ys : List (List ℕ × List ℕ)) (i : ℕ) (r : Bool) → i < length xs → i < length ys → r ≡ pair_eq (get_or xs i ([], [])) (get_or ys i ([], [])) →
    pairs_eq (drop i xs) (drop i ys) ≡ (r && pairs_eq (drop (i + 1) xs) (drop (i + 1) ys))
next_same xs ys i r x_there y_there is =
    at_drop_more (λ (l : List (List ℕ × List ℕ)). pairs_eq l (drop i ys)) xs i ([], []) x_there
    ∙ at_drop_more (λ (l : List (List ℕ × List ℕ)). pairs_eq (get_or xs i ([], []) ∷ drop (i + 1) xs) l) ys i ([], []) y_there
    ∙ ap (λ b. b && pairs_eq (drop (i + 1) xs) (drop (i + 1) ys)) (sym is)

pub same_from : (xs ys : List (List ℕ × List ℕ)) (i : ℕ) (r : Bool) → i < length xs → i < length ys → r ≡ pair_eq (get_or xs i ([], [])) (get_or ys i ([], [])) → r ≡ true →
    pairs_eq (drop i xs) (drop i ys) ≡ pairs_eq (drop (i + 1) xs) (drop (i + 1) ys)
same_from xs ys i r x_there y_there is same =
    next_same xs ys i r x_there y_there is ∙ ap (λ b. b && pairs_eq (drop (i + 1) xs) (drop (i + 1) ys)) same

pub other_from : (xs ys : List (List ℕ × List ℕ)) (i : ℕ) (r : Bool) → i < length xs → i < length ys → r ≡ pair_eq (get_or xs i ([], [])) (get_or ys i ([], [])) → r ≡ false →
    pairs_eq (drop i xs) (drop i ys) ≡ false
other_from xs ys i r x_there y_there is other =
    next_same xs ys i r x_there y_there is ∙ ap (λ b. b && pairs_eq (drop (i + 1) xs) (drop (i + 1) ys)) other

pub same_at_end : (xs ys : List (List ℕ × List ℕ)) (i : ℕ) → length xs ≤ i → length ys ≤ i → pairs_eq (drop i xs) (drop i ys) ≡ true
same_at_end xs ys i x_end y_end = ap (λ (l : List (List ℕ × List ℕ)). pairs_eq l (drop i ys)) (drop_all i xs x_end) ∙ ap (pairs_eq []) (drop_all i ys y_end)
