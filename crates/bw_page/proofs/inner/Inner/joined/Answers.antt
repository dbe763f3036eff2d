use Rattle.std.proofs.Common.{◌≡◌, ◌∙◌, ◌++◌, Some, ap, sym}
use Rattle.bw_page.specs.Inners.{InnerView}
use Rattle.bw_page.specs.Pages.{BoundsView}
use Rattle.bw_key.specs.Order.{KeyBytes}
use Rattle.bw_page.proofs.Entries.{joined_inner_page, same_inner}
use Rattle.bw_page.proofs.inner.Inner.joined.Goals as goal

pub invariant_of-result : goal.invariant_of-result
invariant_of-result c =
    let left : BoundsView = c.self.inside.bounds in
    let right : BoundsView = c.right.inside.bounds in
    let meets : left.high ≡ Some right.low =
    ap (λ (v : InnerView). v.high) c.self.view_is ∙ c.requires.next ∙ sym (ap (λ (v : InnerView). Some v.low) c.right.view_is)
    in
    let all : _ ≡ c.self.inside.children ++ c.right.inside.children = c.in_ok-joined.ensures in
    same_inner c.self.inside.level _ _ _ _ (c.in_ok-with_low.ensures ∙ ap (λ (k : KeyBytes). record right { low = k }) (c.in_ok-copy.ensures.ok ∙ c.low.ensures)) all
    (joined_inner_page c.self.inside.level c.right.inside.level left.low right.low left.high right.high left.side right.side c.self.inside.children c.right.inside.children meets c.self.invariant c.right.invariant)
