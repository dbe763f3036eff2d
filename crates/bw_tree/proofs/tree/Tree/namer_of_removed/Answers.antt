use Rattle.std.proofs.Common.{subst}
use Rattle.std.specs.Prelude.{MatchOption}
use Rattle.bw_look.specs.RemovedPages.{HasNoNamerOfRemoved, IsNamerOfRemoved}
use Rattle.bw_look.specs.View.{TreeView}
use Rattle.bw_tree.proofs.tree.Tree.namer_of_removed.Goals as goal

pub returns : goal.returns
returns c = subst (λ (v : TreeView). MatchOption c.namer_of_removed.result (HasNoNamerOfRemoved v c.args.page) (IsNamerOfRemoved v c.args.page)) c.look.ensures c.namer_of_removed.ensures
