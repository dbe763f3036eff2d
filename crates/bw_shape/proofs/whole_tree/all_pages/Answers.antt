use Rattle.std.proofs.Common.{ℕ, List, reverse, sym, ap, ◌∙◌, subst}
use Rattle.std.proofs.lemmas.List.Sorted.{Contains-permutation, IsPermutation-reverse}
use Rattle.std.specs.List.{Contains}
use Rattle.bw_level.specs.Levels.{row}
use Rattle.bw_shape.specs.Tidying.{DueView, no_due}
use Rattle.bw_shape.proofs.whole_tree.all_pages.Goals as goal

pub returns-clause-all : goal.returns-clause-all
returns-clause-all c =
    c.set_pages.ensures ∙ ap (λ (d : DueView). record d { pages = reverse c.in_ok-leaves.leaves.items; above = c.in_ok-inner.inner.items }) c.new-due.ensures
    ∙ ap (λ (l : List ℕ). record no_due { pages = reverse l; above = c.in_ok-inner.inner.items }) c.in_ok-leaves.ensures
    ∙ ap (λ (l : List ℕ). record no_due { pages = reverse (row c.args.tree.now.levels 0); above = l }) c.in_ok-inner.ensures

pub returns-clause-leaves : goal.returns-clause-leaves
returns-clause-leaves c = λ p leaf.
    let leaves = row c.args.tree.now.levels 0 in
    subst (λ (l : List ℕ). Contains l p) (sym (ap (λ (d : DueView). d.pages) c.set_pages.ensures ∙ ap reverse c.in_ok-leaves.ensures))
    (Contains-permutation leaves (reverse leaves) p (IsPermutation-reverse leaves) leaf)
