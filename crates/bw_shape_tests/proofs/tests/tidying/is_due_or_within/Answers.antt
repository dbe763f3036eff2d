use Rattle.std.proofs.Common.{◌≡◌, ◌∙◌, sym, subst, inl, get_or, reverse}
use Rattle.std.proofs.lemmas.List.Folds.{Any-from_list_any}
use Rattle.std.proofs.lemmas.List.Sorted.{Contains-permutation, IsPermutation-reverse}
use Rattle.std.proofs.lemmas.Map.Views.{exact_unsigned_eq}
use Rattle.bw_shape_tests.proofs.tests.tidying.is_due_or_within.Goals as goal

pub returns-then-contains : goal.returns-then-contains
returns-then-contains c = λ is leaf.
    let pages = c.args.pages.now in
    let at = Any-from_list_any _ pages (sym c.contains.ensures.value ∙ is) in
    let there = subst (λ x. get_or pages at.0 x ≡ x) (exact_unsigned_eq at.1 c.args.page at.4) at.3 in
    inl (Contains-permutation pages (reverse pages) c.args.page (IsPermutation-reverse pages) (at.0, at.2, there))
