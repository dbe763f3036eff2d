use Rattle.std.proofs.Common.{◌≡◌, ◌∙◌, ap, refl}
use Rattle.bw_page.specs.Inners.{InnerView}
use Rattle.bw_page.specs.MergedEntries.{put_all}
use Rattle.bw_page.specs.Pages.{BoundsView}
use Rattle.bw_page.proofs.Entries.{rules_of_view, same_inner}
use Rattle.bw_page.proofs.MergingLemmas.{inner_with_all}
use Rattle.bw_page.proofs.inner.Inner.with_children.Goals as goal

pub over-requires : goal.over-requires
over-requires c =
    let inner = c.args.self.now in
    let bounds : BoundsView = record { low = inner.low; high = inner.high; side = inner.side } in
    let rules = rules_of_view _ _ c.self.view_is c.self.invariant in
    let there : _ ≡ put_all c.args.entries.now inner.children =
    c.in_ok-with_all.ensures ∙ ap (put_all c.args.entries.now) (ap (λ (v : InnerView). v.children) c.self.view_is) in
    same_inner inner.level bounds bounds _ _ refl there (inner_with_all inner.level inner.low inner.high inner.side c.args.entries.now inner.children c.requires.inside rules)
