use Rattle.std.proofs.Common.{ap, ◌∙◌, subst}
use Rattle.bw_level.specs.Changes.{plain}
use Rattle.bw_chain.specs.Chains.{page_at}
use Rattle.bw_level.specs.Searches.{plain_inner}
use Rattle.bw_level.specs.Slots.{IsSoundInner, Slot}
use Rattle.bw_level.specs.Turns.{over, plain_at}
use Rattle.bw_level.proofs.InnerLemmas.{bare_inner, inner_bare, over_any}
use Rattle.bw_chain.proofs.chains.Chains.inner_page.Goals as goal

pub inner_over-requires-clause-sound : goal.inner_over-requires-clause-sound
inner_over-requires-clause-sound c = λ bases.
    let delta = c.under_writes.result.0 in
    let under = c.args.self.now.bases in
    subst IsSoundInner (over_any under bases delta (plain_inner c.in-Inner.inner) c.under_writes.ensures.other)
    (subst (λ (s : Slot). IsSoundInner (over under delta s)) (ap plain_at c.in-Some.is ∙ ap plain c.in-Inner.is)
    (inner_bare (over under delta (plain_at c.under_writes.result.1))
    (subst IsSoundInner c.under_writes.ensures.same (bare_inner (page_at c.args.self.now c.args.head) c.requires.inner))))
