-- How many records a seat owns: with each piece that it claims, more.
use Rattle.std.proofs.Common.{◌≡◌, ℕ, zero, suc, ◌+◌, ◌-◌, ◌<◌, ◌≤◌, eqb, leb, ltb, min, eq-eqb, ◌&&◌, List, [], ◌∷◌, refl, ap, subst, arith, inl, inr}
use Rattle.std.proofs.lemmas.Bool.{cases_eq}
use Rattle.std.proofs.lemmas.Bool.Decides.{nat_tests}
use Rattle.bw_core.specs.declared.Span.{Span}
use Rattle.bw_core.specs.declared.BookView.{BookView}
use Rattle.bw_core.specs.World.{one_if, total, owns}
use Rattle.bw_core.specs.Events.{book_after_claim}
use Rattle.bw_core.proofs.Lists.{total-append}

-- whether r lies from k on, below `to`
abbrev in_rest : ℕ → ℕ → ℕ → ℕ
in_rest k to r = one_if (leb k r && ltb r to)

owns_piece : (piece records n r : ℕ) (b : BookView) → owns r (book_after_claim piece records n b) ≡ owns r b + in_rest n (min (n + piece) records) r
owns_piece piece records n r b = let a = total-append (λ (s : Span). one_if (leb s.from r && ltb r s.to)) b.owned (record { from = n; to = min (n + piece) records } ∷ []) in omega arith

first_left : (k to r : ℕ) → k < to → in_rest k to r ≡ one_if (eqb k r) + in_rest (suc k) to r
first_left k to r h = grind (arith, nat_tests)

-- how many of the records below n the book owns
abbrev pub owned_count : ℕ → BookView → ℕ
owned_count zero b = 0
owned_count (suc n) b = owns n b + owned_count n b

owned_few : (n : ℕ) (b : BookView) → ((r : ℕ) → owns r b ≤ 1) → owned_count n b ≤ n
owned_few zero b one = omega arith
owned_few (suc n) b one = let h = owned_few n b one in let o = one n in omega arith

owned_le : (n : ℕ) (b d : BookView) → ((r : ℕ) → owns r b ≤ owns r d) → owned_count n b ≤ owned_count n d
owned_le zero b d le = omega arith
owned_le (suc n) b d le = let h = owned_le n b d le in let o = le n in omega arith

owned_lt : (n r : ℕ) (b d : BookView) → r < n → ((r : ℕ) → owns r b ≤ owns r d) → owns r b < owns r d → owned_count n b < owned_count n d
owned_lt zero r b d h le lt = absurd (omega arith)
owned_lt (suc n) r b d h le lt = elim (cases_eq r n) [
  | inl e ↦ let a = owned_le n b d le in let o : owns n b < owns n d = subst (λ z. owns z b < owns z d) e lt in omega arith
  | inr ne ↦ let a = owned_lt n r b d (grind (arith, h, ne)) le lt in let o = le n in omega arith
]

owned_same : (n : ℕ) (b d : BookView) → b.owned ≡ d.owned → owned_count n b ≡ owned_count n d
owned_same zero b d e = refl
owned_same (suc n) b d e = let h = owned_same n b d e in let o : owns n b ≡ owns n d = ap (λ (ss : List Span). total (λ s. one_if (leb s.from n && ltb n s.to)) ss) e in omega arith

-- a claimed piece is one record more at least
pub owned_more : (piece n start : ℕ) (b d : BookView) → start < n → start < min (start + piece) n → d.owned ≡ (book_after_claim piece n start b).owned → ((r : ℕ) → owns r d ≤ 1) → n - owned_count n d < n - owned_count n b
owned_more piece n start b d less some e one =
    let x : BookView = book_after_claim piece n start b in
    let a = owned_lt n start b x less (λ r. (let e = owns_piece piece n start r b in omega arith))
    (let e = owns_piece piece n start start b in let f = first_left start (min (start + piece) n) start some in let s : one_if (eqb start start) ≡ 1 = ap one_if (eq-eqb start start refl) in omega arith) in
    let same = owned_same n d x e in let few = owned_few n d one in omega arith
