use Rattle.std.proofs.Common.{inl, inr}
use Rattle.bw_level.specs.Changes.{plain}
use Rattle.bw_page.specs.declared.pages.Page.TheVariants.{Inner as InnerPage}
use Rattle.bw_level.proofs.JoiningLemmas.{inner_level, inner_meets, no_leaf, no_removed}
use Rattle.bw_level.proofs.joined_pages.join_inner.Goals as goal

pub joined-requires-clause-level : goal.joined-requires-clause-level
joined-requires-clause-level c = inner_level c.args.inner.now c.args.right.now c.requires c.in-Inner.other c.in-Inner.is

pub joined-requires-clause-next : goal.joined-requires-clause-next
joined-requires-clause-next c = inner_meets c.args.inner.now c.args.right.now c.requires c.in-Inner.other c.in-Inner.is

pub unreachable-requires : goal.unreachable-requires
unreachable-requires c = elim c.in-Leaf.is [
  | inl leaf ↦ no_leaf c.args.inner.now c.args.right.now c.requires leaf.0 leaf.1
  | inr removed ↦ no_removed (plain (InnerPage c.args.inner.now)) c.args.right.now removed.0 removed.1 c.requires
]
