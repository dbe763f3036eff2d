use Rattle.std.proofs.Common.{sym, subst}
use Rattle.bw_key.specs.Order.{KeyBytes}
use Rattle.bw_tree.specs.TreeChildren.{MayHaveChild}
use Rattle.bw_look.proofs.UnnamedLemmas.{fits_child}
use Rattle.bw_tree_tests.proofs.tests.naming.name_one.Goals as goal

pub set_child-requires-clause-page : goal.set_child-requires-clause-page
set_child-requires-clause-page g c =
    let tree = c.args.tree.now in
    let found = c.unnamed-found.result in
    subst (λ (k : KeyBytes). MayHaveChild tree found.parent k found.page) (sym c.copy_of-sep.ensures)
    (record { fits = fits_child tree tree.root c.know_levels.ensures.lawful c.args.page c.know_entries.ensures found.parent found.sep.now found.page c.unnamed-found.ensures; plain = c.is_plain.ensures })
