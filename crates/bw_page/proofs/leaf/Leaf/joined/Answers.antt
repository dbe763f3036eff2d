use Rattle.std.proofs.Common.{◌≡◌, ◌∙◌, ◌++◌, Some, ap, sym}
use Rattle.bw_model.specs.Values.{ValueBytes}
use Rattle.bw_page.specs.Leaves.{LeafView}
use Rattle.bw_page.specs.Pages.{BoundsView}
use Rattle.bw_key.specs.Order.{KeyBytes}
use Rattle.bw_page.proofs.Entries.{joined_page, same_page}
use Rattle.bw_page.proofs.leaf.Leaf.joined.Goals as goal

pub invariant_of-result : goal.invariant_of-result
invariant_of-result c =
    let left : BoundsView = c.self.inside.bounds in
    let right : BoundsView = c.right.inside.bounds in
    let meets : left.high ≡ Some right.low =
    ap (λ (v : LeafView ValueBytes). v.high) c.self.view_is ∙ c.requires ∙ sym (ap (λ (v : LeafView ValueBytes). Some v.low) c.right.view_is)
    in
    let all : c.in_ok-join.field-0 ≡ c.self.inside.pairs ++ c.right.inside.pairs = c.in_ok-join.ensures in
    same_page _ _ _ _ (c.in_ok-with_low.ensures ∙ ap (λ (k : KeyBytes). record right { low = k }) (c.in_ok-copy.ensures.ok ∙ c.low.ensures)) all
    (joined_page left.low right.low left.high right.high left.side right.side c.self.inside.pairs c.right.inside.pairs meets c.self.invariant c.right.invariant)
