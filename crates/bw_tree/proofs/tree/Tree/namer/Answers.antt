use Rattle.std.proofs.Common.{subst}
use Rattle.std.specs.Prelude.{MatchOption}
use Rattle.bw_look.specs.PageStates.{HasNoNamer, IsNamer}
use Rattle.bw_look.specs.View.{TreeView}
use Rattle.bw_tree.proofs.tree.Tree.namer.Goals as goal

pub returns : goal.returns
returns c = subst (λ (v : TreeView). MatchOption c.namer.result (HasNoNamer v c.args.page) (IsNamer v c.args.page)) c.look.ensures c.namer.ensures
