use Rattle.std.proofs.Common.{sym, ap, ◌∙◌}
use Rattle.bw_page.specs.declared.pages.Page.TheVariants.{Leaf as LeafPage}
use Rattle.bw_level.specs.Changes.{plain}
use Rattle.bw_chain.specs.Chains.{page_at}
use Rattle.bw_level.specs.Slots.{Slot}
use Rattle.bw_level.specs.Turns.{over, plain_at, slot_without_writes}
use Rattle.bw_chain.proofs.BareLemmas.{same_high, same_side}
use Rattle.bw_chain.proofs.chains.Chains.end.Goals as goal

pub returns-clause-high : goal.returns-clause-high
returns-clause-high c =
    let bases = c.args.self.now.bases in
    let delta = c.under_writes.result.0 in
    (c.end_over.ensures bases).0
    ∙ sym (same_high (page_at c.args.self.now c.args.head) (over bases delta (plain (LeafPage c.in-Leaf.leaf)))
    (c.under_writes.ensures.same ∙ ap (λ (o : Slot). slot_without_writes (over bases delta o)) (ap plain_at c.in-Some.is ∙ ap plain c.in-Leaf.is)))

pub returns-clause-side : goal.returns-clause-side
returns-clause-side c =
    let bases = c.args.self.now.bases in
    let delta = c.under_writes.result.0 in
    (c.end_over.ensures bases).1
    ∙ sym (same_side (page_at c.args.self.now c.args.head) (over bases delta (plain (LeafPage c.in-Leaf.leaf)))
    (c.under_writes.ensures.same ∙ ap (λ (o : Slot). slot_without_writes (over bases delta o)) (ap plain_at c.in-Some.is ∙ ap plain c.in-Leaf.is)))
