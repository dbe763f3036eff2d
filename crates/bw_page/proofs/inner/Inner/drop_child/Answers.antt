use Rattle.std.proofs.Common.{◌≢◌, ℕ, List, subst, sym}
use Rattle.bw_key.specs.Order.{KeyBytes}
use Rattle.bw_page.specs.Inners.{InnerView, IsInner}
use Rattle.bw_page.proofs.Entries.{without_inner_page}
use Rattle.bw_page.proofs.inner.Inner.drop_child.Goals as goal

pub invariant_of-self : goal.invariant_of-self
invariant_of-self c =
    let level = c.self.inside.level in
    let bounds = c.self.inside.bounds in
    let other : c.args.sep.now ≢ bounds.low = subst (λ (v : InnerView). c.args.sep.now ≢ v.low) (sym c.self.view_is) c.requires in
    subst (λ (es : List (KeyBytes × ℕ)). IsInner level bounds.low bounds.high bounds.side es) (sym c.remove.ensures)
    (without_inner_page level bounds.low bounds.high bounds.side c.args.sep.now c.self.inside.children other c.self.invariant)
