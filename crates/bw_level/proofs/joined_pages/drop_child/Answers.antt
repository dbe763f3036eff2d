use Rattle.std.proofs.Common.{inl, inr, subst}
use Rattle.bw_page.specs.declared.pages.Page.{Page}
use Rattle.bw_level.specs.Changes.{plain}
use Rattle.bw_level.specs.Slots.{IsSoundInner}
use Rattle.bw_level.proofs.JoiningLemmas.{differ}
use Rattle.bw_level.proofs.joined_pages.drop_child.Goals as goal

pub unreachable-requires : goal.unreachable-requires
unreachable-requires c = elim c.in-Leaf.is [
  | inl leaf ↦ differ (subst (λ (p : Page). IsSoundInner (plain p)) leaf.1 c.requires.inner).0
  | inr removed ↦ subst (λ (p : Page). IsSoundInner (plain p)) removed.1 c.requires.inner
]
