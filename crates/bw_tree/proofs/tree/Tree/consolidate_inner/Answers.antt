use Rattle.std.proofs.Common.{◌≡◌, ◌<◌, length, sym, subst}
use Rattle.bw_look.specs.View.{TreeView}
use Rattle.bw_tree.proofs.tree.Tree.consolidate_inner.Goals as goal

pub rebase-requires-clause-there : goal.rebase-requires-clause-there
rebase-requires-clause-there c =
    let same : c.consolidate_in_place.new.self ≡ c.args.self.now = rw c.if-branch.false at c.in_ok-consolidate_in_place.ensures.ok in
    subst (λ (v : TreeView). c.args.page < length v.heads) (sym same) (c.know_records.ensures.there c.args.page c.requires.inner.in_levels)
