-- A leaf put before leaves that are side by side.
use Rattle.std.proofs.Common.{◌≡◌, ℕ, ◌+◌, List, [], ◌∷◌, ◌++◌, Some, None, refl, sym, ap, ◌∙◌, subst}
use Rattle.std.specs.Prelude.{reverse}
use Rattle.std.proofs.lemmas.List.{reverse-append}
use Rattle.bw_key.specs.Order.{KeyBytes}
use Rattle.bw_model.specs.Values.{ValueBytes}
use Rattle.bw_page.specs.Leaves.{LeafView}
use Rattle.bw_tree.specs.Making.{AreAbutting}

one_before : (n m : ℕ) (low begin : KeyBytes) (leaf : LeafView ValueBytes) (leaves : List (LeafView ValueBytes)) → m + 1 ≡ n → leaf.low ≡ begin → leaf.high ≡ Some low → leaf.side ≡ Some n → AreAbutting n low leaves → AreAbutting m begin (leaf ∷ leaves)
one_before n m low begin leaf [] e l h s a = absurd a
one_before n m low begin leaf (next ∷ []) e l h s a = (l, h ∙ ap Some (sym a.0), s ∙ ap Some (sym e), (refl, a.1, a.2))
one_before n m low begin leaf (next ∷ more ∷ rest) e l h s a =
    (l, h ∙ ap Some (sym a.0), s ∙ ap Some (sym e), (refl, a.1, subst (λ k. next.side ≡ Some (k + 1)) (sym e) a.2, subst (λ k. AreAbutting (k + 1) more.low (more ∷ rest)) (sym e) a.3))

-- the same of lists that are kept from the last to the first
pub put_before : (n m : ℕ) (low begin : KeyBytes) (leaf : LeafView ValueBytes) (leaves after : List (LeafView ValueBytes)) → m + 1 ≡ n → leaf.low ≡ begin → leaf.high ≡ Some low → leaf.side ≡ Some n → AreAbutting n low (reverse leaves) → after ≡ leaves ++ leaf ∷ [] → AreAbutting m begin (reverse after)
put_before n m low begin leaf leaves after e l h s a is = subst (AreAbutting m begin) (sym (ap reverse is ∙ reverse-append leaves (leaf ∷ []))) (one_before n m low begin leaf (reverse leaves) e l h s a)

-- the last of them
pub alone : (n : ℕ) (low : KeyBytes) (leaf : LeafView ValueBytes) (leaves after : List (LeafView ValueBytes)) → leaf.low ≡ low → leaf.high ≡ None → leaf.side ≡ None → leaves ≡ [] → after ≡ leaves ++ leaf ∷ [] → AreAbutting n low (reverse after)
alone n low leaf leaves after l h s none is = subst (λ ls. AreAbutting n low (reverse ls)) (sym (is ∙ ap (λ ls. ls ++ leaf ∷ []) none)) (l, h, s)

-- all of them
pub whole : (n : ℕ) (low : KeyBytes) (leaves after : List (LeafView ValueBytes)) → n ≡ 0 → (n ≡ 0 → low ≡ []) → after ≡ reverse leaves → AreAbutting n low (reverse leaves) → AreAbutting 0 [] after
whole n low leaves after z least is a = subst (AreAbutting 0 []) (sym is) (subst (λ k. AreAbutting 0 k (reverse leaves)) (least z) (subst (λ k. AreAbutting k low (reverse leaves)) z a))
