use Rattle.std.proofs.Common.{subst}
use Rattle.std.specs.Prelude.{IfOk, MatchOption}
use Rattle.bw_look.specs.PageStates.{IsState}
use Rattle.bw_look.specs.Routing.{IsInNoLevel}
use Rattle.bw_look.specs.View.{TreeView}
use Rattle.bw_tree.proofs.tree.Tree.state.Goals as goal

pub returns : goal.returns
returns c = subst (λ (v : TreeView). IfOk c.state.result (λ state. MatchOption state (IsInNoLevel v c.args.page) (IsState v c.args.page c.args.stamp))) c.look.ensures c.state.ensures
