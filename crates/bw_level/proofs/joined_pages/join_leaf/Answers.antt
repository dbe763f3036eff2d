use Rattle.std.proofs.Common.{inl, inr}
use Rattle.bw_level.specs.Changes.{plain}
use Rattle.bw_page.specs.declared.pages.Page.TheVariants.{Leaf as LeafPage}
use Rattle.bw_level.proofs.JoiningLemmas.{leaf_meets, no_inner, no_removed}
use Rattle.bw_level.proofs.joined_pages.join_leaf.Goals as goal

pub joined-requires : goal.joined-requires
joined-requires c = leaf_meets c.args.leaf.now c.args.right.now c.requires c.in-Leaf.other c.in-Leaf.is

pub unreachable-requires : goal.unreachable-requires
unreachable-requires c = elim c.in-Inner.is [
  | inl inner ↦ no_inner c.args.leaf.now c.args.right.now c.requires inner.0 inner.1
  | inr removed ↦ no_removed (plain (LeafPage c.args.leaf.now)) c.args.right.now removed.0 removed.1 c.requires
]
