use Rattle.std.proofs.Common.{◌≡◌, ℕ, List, T, nat_eq, sym, subst, arith, true}
use Rattle.std.proofs.lemmas.Bool.Decides.{nat_tests}
use Rattle.std.specs.Ordering.{is_lt}
use Rattle.bw_page.proofs.Truths.{both_of, true_holds}
use Rattle.std.specs.FinMap.{is_sorted}
use Rattle.bw_key.specs.Order.{KeyBytes, key_cmp}
use Rattle.bw_look.specs.Unnamed.{IsUnnamed}
use Rattle.bw_tree.specs.TreeChildren.{MayHaveChildren}
use Rattle.bw_look.proofs.UnnamedLemmas.{fits_child, home_inner}
use Rattle.bw_tree_tests.proofs.tests.naming.name_both.Goals as goal

same : (p q : ℕ) → nat_eq p q ≡ true → p ≡ q
same p q told = grind (arith, nat_tests)

pub name_all-requires-clause-page : goal.name_all-requires-clause-page
name_all-requires-clause-page g c =
    let u = c.unnamed-first.ensures in
    home_inner c.args.tree.now c.unnamed-first.result.sep.now _ c.unnamed-first.result.parent u.home (omega arith)

pub name_all-requires-clause-rising : goal.name_all-requires-clause-rising
name_all-requires-clause-rising g c =
    subst (λ (l : List (KeyBytes × ℕ)). T (is_sorted key_cmp l)) (sym c.in_ok-entries.ensures)
    (let less : is_lt (key_cmp c.unnamed-first.result.sep.now c.unnamed-second.result.sep.now) ≡ true = cc (c.lt.ensures) in
    both_of _ _ (both_of _ _ (true_holds _ less) tt) tt)

pub name_all-requires-clause-fit : goal.name_all-requires-clause-fit
name_all-requires-clause-fit g c =
    let tree = c.args.tree.now in
    let first = c.unnamed-first.result in
    let second = c.unnamed-second.result in
    let lawful = c.know_levels.ensures.lawful in
    let told : nat_eq second.parent first.parent ≡ true = cc (c.eq.ensures) in
    subst (MayHaveChildren tree first.parent) (sym c.in_ok-entries.ensures) (
      fits_child tree tree.root lawful c.args.page c.know_entries.ensures first.parent first.sep.now first.page c.unnamed-first.ensures,
      (fits_child tree tree.root lawful first.page c.know_entries.ensures first.parent second.sep.now second.page (subst (λ p. IsUnnamed tree first.page p second.sep.now second.page) (same second.parent first.parent told) c.unnamed-second.ensures), tt),
    )
