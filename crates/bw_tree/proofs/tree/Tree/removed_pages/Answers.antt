use Rattle.std.proofs.Common.{subst}
use Rattle.std.specs.Prelude.{IfOk}
use Rattle.bw_look.specs.RemovedPages.{HasEachRemoved}
use Rattle.bw_look.specs.View.{TreeView}
use Rattle.bw_tree.proofs.tree.Tree.removed_pages.Goals as goal

pub returns : goal.returns
returns c = subst (λ (v : TreeView). IfOk c.removed_pages.result (λ pages. HasEachRemoved v.slots pages.items)) c.look.ensures c.removed_pages.ensures
