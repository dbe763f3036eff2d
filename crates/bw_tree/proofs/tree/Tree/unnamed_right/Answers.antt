use Rattle.std.proofs.Common.{subst}
use Rattle.std.specs.Prelude.{MatchOption}
use Rattle.bw_look.specs.Unnamed.{HasNoUnnamed, IsUnnamed}
use Rattle.bw_look.specs.View.{TreeView}
use Rattle.bw_tree.proofs.tree.Tree.unnamed_right.Goals as goal

pub returns : goal.returns
returns c = subst (λ (v : TreeView). MatchOption c.unnamed_right.result (HasNoUnnamed v c.args.page) (λ u. IsUnnamed v c.args.page u.parent u.sep.now u.page)) c.look.ensures c.unnamed_right.ensures
