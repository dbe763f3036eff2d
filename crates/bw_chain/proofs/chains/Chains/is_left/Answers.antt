use Rattle.std.proofs.Common.{inl, inr, ◌⊎◌, ◌≡◌, ℕ, zero, suc, ◌+◌, ◌<◌, true, false, List, [], ◌∷◌, get_or, length, slice_index, sym, ap, ◌∙◌, subst, arith}
use Rattle.std.specs.List.{Contains}
use Rattle.bw_level.specs.Changes.{Bases}
use Rattle.bw_chain.specs.Chains.{ChainsView}
use Rattle.bw_chain.specs.Removed.{IsRemovedAt, IsRemovedInto}
use Rattle.bw_chain.proofs.chains.Chains.is_left.Goals as goal

different : true ≡ false → ⊥
different e = cc

none : false ≡ true → ⊥
none e = cc

last_or_before : (k n : ℕ) → k < n + 1 → (k < n) ⊎ (k ≡ n)
last_or_before k n lt = grind (arith)

-- where none of a list is one, and all are among these, there is none
none_among : (bases : Bases) (page : ℕ) (items : List ℕ) → ((k : ℕ) → k < length items → IsRemovedInto bases page (slice_index items k) → ⊥) → (n : ℕ) → Contains items n → IsRemovedInto bases page n → ⊥
none_among bases page items not n has into = not has.0 has.1 (subst (IsRemovedInto bases page) (sym (at items has)) into)
  where
    at : (ns : List ℕ) (h : Contains ns n) → slice_index ns h.0 ≡ n
    at [] h = absurd (omega (arith, h.1))
    at (m ∷ ns) (zero, lt, e) = e
    at (m ∷ ns) (suc k, lt, e) = at ns (k, omega (arith, lt), e)

item_is : (items : List ℕ) (k item : ℕ) → k < length items → item ≡ get_or items k item → item ≡ slice_index items k
item_is [] k item lt is = absurd (omega (arith, lt))
item_is (x ∷ items) zero item lt is = is
item_is (x ∷ items) (suc k) item lt is = item_is items k item (omega (arith, lt)) is

pub loop-number-init : goal.loop-number-init
loop-number-init c = λ k lt. absurd (omega (arith, lt))

pub loop-number-preserved : goal.loop-number-preserved
loop-number-preserved c = λ k lt into. by k into (last_or_before k c.loop-number.number-index lt)
  where
    by : (k : ℕ) → IsRemovedInto c.args.self.now.bases c.args.page (slice_index c.deref-number-items.result.now k) → (k < c.loop-number.number-index) ⊎ (k ≡ c.loop-number.number-index) → ⊥
    by k into (inl before) = c.loop-number.invariant k before into
    by k into (inr same) =
        different (sym (c.is_left_of.ensures.1 (subst (IsRemovedInto c.args.self.now.bases c.args.page) (ap (slice_index c.deref-number-items.result.now) same ∙ sym (item_is c.deref-number-items.result.now c.loop-number.number-index c.number-item.result c.loop-number-test.true c.number-item.is)) into)) ∙ c.if-is_left_of.false)

pub returns : goal.returns
returns c = (
  λ yes. absurd (none yes),
  λ w. absurd (none_among c.args.self.now.bases c.args.page c.deref-number-items.result.now
      (λ k lt into. c.loop-number.invariant k (omega (arith, lt, c.loop-number-test.false)) into)
      w.0
      (subst (λ (ns : List ℕ). Contains ns w.0) (sym c.deref-number-items.ensures.value)
      (c.self.invariant w.0 w.1.0 (subst (λ (v : ChainsView). IsRemovedAt v.bases w.0 w.1.0) (sym c.self.view_is) w.1.1.0)))
      w.1),
)
