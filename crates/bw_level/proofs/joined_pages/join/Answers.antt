use Rattle.std.proofs.Common.{subst}
use Rattle.bw_page.specs.declared.pages.Page.{Page}
use Rattle.bw_level.specs.Changes.{plain}
use Rattle.bw_level.specs.Merges.{AreNeighbours}
use Rattle.bw_level.proofs.joined_pages.join.Goals as goal

pub join_leaf-requires : goal.join_leaf-requires
join_leaf-requires c = subst (λ (p : Page). AreNeighbours (plain p) (plain c.args.right.now)) c.in-Leaf.is c.requires

pub join_inner-requires : goal.join_inner-requires
join_inner-requires c = subst (λ (p : Page). AreNeighbours (plain p) (plain c.args.right.now)) c.in-Inner.is c.requires
