use Rattle.std.proofs.Common.{◌≡◌, ◌∙◌, ap, refl}
use Rattle.std.specs.FinMap.{put}
use Rattle.bw_key.specs.Order.{key_cmp}
use Rattle.bw_page.specs.Inners.{InnerView}
use Rattle.bw_page.specs.Pages.{BoundsView}
use Rattle.bw_page.proofs.Entries.{put_inner_page, rules_of_view, same_inner}
use Rattle.bw_page.proofs.inner.Inner.with_child.Goals as goal

pub over-requires : goal.over-requires
over-requires c =
    let inner = c.args.self.now in
    let bounds : BoundsView = record { low = inner.low; high = inner.high; side = inner.side } in
    let rules = rules_of_view _ _ c.self.view_is c.self.invariant in
    let there : _ ≡ put key_cmp c.args.sep.now c.args.child inner.children =
    c.in_ok-with.ensures ∙ ap (put key_cmp c.args.sep.now c.args.child) (ap (λ (v : InnerView). v.children) c.self.view_is) in
    same_inner inner.level bounds bounds _ _ refl there (put_inner_page inner.level inner.low inner.high inner.side c.args.sep.now c.args.child inner.children c.requires rules)
