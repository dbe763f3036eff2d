use Rattle.std.proofs.Common.{[], subst}
use Rattle.bw_page.specs.declared.pages.Page.{Page}
use Rattle.bw_delta.specs.declared.deltas.Delta.TheVariants.{Split}
use Rattle.bw_level.specs.Changes.{change, plain}
use Rattle.bw_level.specs.Slots.{IsSound}
use Rattle.bw_level.proofs.page_cuts.narrow.Goals as goal

pub narrow-requires : goal.narrow-requires
narrow-requires c = (subst (λ (b : Page). IsSound (change [] (Split c.args.high c.args.side) (plain b))) c.in-Leaf.is (c.requires [])).page.wide

pub narrow-requires-in-Inner : goal.narrow-requires-in-Inner
narrow-requires-in-Inner c = (subst (λ (b : Page). IsSound (change [] (Split c.args.high c.args.side) (plain b))) c.in-Inner.is (c.requires [])).page.wide

pub unreachable-requires : goal.unreachable-requires
unreachable-requires c = subst (λ (b : Page). IsSound (change [] (Split c.args.high c.args.side) (plain b))) c.in-Gone.is (c.requires [])
