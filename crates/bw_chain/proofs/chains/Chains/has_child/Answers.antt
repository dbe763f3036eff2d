use Rattle.std.proofs.Common.{ap, ◌∙◌}
use Rattle.bw_level.specs.Changes.{plain}
use Rattle.bw_chain.specs.Chains.{page_at}
use Rattle.bw_level.specs.Searches.{plain_inner}
use Rattle.bw_level.specs.Slots.{Slot}
use Rattle.bw_level.specs.Turns.{over, plain_at, slot_without_writes}
use Rattle.bw_level.proofs.IndexLemmas.{children_alike, starts_alike, starts_under}
use Rattle.bw_chain.proofs.chains.Chains.has_child.Goals as goal

pub child_over-requires-clause-starts : goal.child_over-requires-clause-starts
child_over-requires-clause-starts c =
    let bases = c.args.self.now.bases in
    let delta = c.under_writes.result.0 in
    starts_under c.args.key.now bases delta c.in-Inner.inner c.under_writes.ensures.other
    (starts_alike c.args.key.now (page_at c.args.self.now c.args.head) (over bases delta (plain_inner c.in-Inner.inner))
    (c.under_writes.ensures.same ∙ ap (λ (o : Slot). slot_without_writes (over bases delta o)) (ap plain_at c.in-Some.is ∙ ap plain c.in-Inner.is))
    c.requires.starts)

pub returns : goal.returns
returns c =
    let bases = c.args.self.now.bases in
    let delta = c.under_writes.result.0 in
    children_alike c.args.key.now c.args.child (page_at c.args.self.now c.args.head) (over bases delta (plain_inner c.in-Inner.inner)) c.child_over.result
    (c.under_writes.ensures.same ∙ ap (λ (o : Slot). slot_without_writes (over bases delta o)) (ap plain_at c.in-Some.is ∙ ap plain c.in-Inner.is))
    (c.child_over.ensures bases)
