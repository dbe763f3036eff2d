use Rattle.std.proofs.Common.{◌≡◌, ℕ, zero, suc, ◌-◌, true, false, List, [], ◌∷◌, ◌++◌, take, length, Some, None, sym, ap, ◌∙◌, arith}
use Rattle.std.specs.Prelude.{slice_get}
use Rattle.bw_chain.proofs.RemovedBases.{all_passed}
use Rattle.bw_chain.proofs.bases.pass_removed.Goals as goal

different : false ≡ true → ⊥
different e = cc

none : {x : ℕ} → None ≡ Some x → ⊥
none e = cc

one : {x y : ℕ} → Some x ≡ Some y → x ≡ y
one e = cc

-- a list ends with its last number
parted_at : (k : ℕ) (ns : List ℕ) (n : ℕ) → length ns ≡ suc k → slice_get ns k ≡ Some n → ns ≡ take k ns ++ n ∷ []
parted_at zero [] n size last = absurd (none last)
parted_at zero (x ∷ []) n size last = ap (λ y. y ∷ []) (one last)
parted_at zero (x ∷ y ∷ ns) n size last = absurd (omega (arith, size))
parted_at (suc k) [] n size last = absurd (none last)
parted_at (suc k) (x ∷ ns) n size last = ap (λ (l : List ℕ). x ∷ l) (parted_at k ns n (omega (arith, size)) last)

parted : (ns : List ℕ) (n : ℕ) → slice_get ns (length ns - 1) ≡ Some n → ns ≡ take (length ns - 1) ns ++ n ∷ []
parted [] n last = absurd (none last)
parted (x ∷ ns) n last = parted_at (length (x ∷ ns) - 1) (x ∷ ns) n (omega arith) last

pub loop-number-preserved : goal.loop-number-preserved
loop-number-preserved c = λ all.
    let items = c.loop-number.numbers.items in
    let number = c.in-Some.number in
    let last : slice_get items (length items - 1) ≡ Some number =
    ap (λ (l : List ℕ). slice_get l (length l - 1)) (sym c.deref.ensures.value) ∙ sym c.last.ensures.value ∙ sym c.copied.ensures ∙ c.in-Some.is in
    let size : c.loop-number.numbers.len ≡ length items = omega (arith, c.loop-number.numbers.ok) in
    let rest : c.pop.new.self.items ≡ take (length items - 1) items = c.pop.ensures.rest ∙ ap (λ m. take (m - 1) items) size in
    all_passed c.args.bases.now.items number items c.pop.new.self.items (parted items number last ∙ ap (λ (l : List ℕ). l ++ number ∷ []) (sym rest))
    (λ w. different (sym c.if-is_removed.false ∙ c.is_removed.ensures.1 w)) (c.loop-number.invariant all)
