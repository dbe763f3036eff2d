use Rattle.std.proofs.Common.{subst}
use Rattle.std.specs.Prelude.{MatchOption}
use Rattle.bw_look.specs.Routing.{IsInLevel, IsInNoLevel}
use Rattle.bw_look.specs.View.{TreeView}
use Rattle.bw_tree.proofs.tree.Tree.in_level.Goals as goal

pub returns-clause-level : goal.returns-clause-level
returns-clause-level c = subst (λ (v : TreeView). MatchOption c.in_level.result (IsInNoLevel v c.args.page) (IsInLevel v c.args.page)) c.look.ensures c.in_level.ensures.level
