use Rattle.std.proofs.Common.{◌∙◌, ap}
use Rattle.bw_look.specs.PageStates.{leaf_as_of}
use Rattle.bw_look.specs.View.{TreeView}
use Rattle.bw_tree.proofs.tree.Tree.merge_writes.Goals as goal

pub put_leaf-requires-clause-consolidated : goal.put_leaf-requires-clause-consolidated
put_leaf-requires-clause-consolidated c = c.in_ok-leaf.ensures ∙ ap (λ (v : TreeView). leaf_as_of v c.args.page c.self.inside.next) c.look.ensures ∙ ap (λ (v : TreeView). leaf_as_of c.args.self.now c.args.page v.next) c.self.view_is
