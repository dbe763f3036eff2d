use Rattle.std.proofs.Common.{subst}
use Rattle.bw_look.specs.View.{HomeIsOneIn, HomesHoldAll, LeavesHaveDistinctStamps, TreeView}
use Rattle.bw_tree.proofs.tree.Tree.know_homes.Goals as goal

pub returns-clause-one : goal.returns-clause-one
returns-clause-one c = subst (λ (v : TreeView). HomeIsOneIn v) c.look.ensures c.know_homes.ensures.one

pub returns-clause-values : goal.returns-clause-values
returns-clause-values c = subst (λ (v : TreeView). HomesHoldAll v) c.look.ensures c.know_homes.ensures.values

pub returns-clause-distinct : goal.returns-clause-distinct
returns-clause-distinct c = subst (λ (v : TreeView). LeavesHaveDistinctStamps v) c.look.ensures c.know_homes.ensures.distinct
