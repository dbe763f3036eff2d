use Rattle.std.proofs.Common.{is_some, sym, ap, ◌∙◌}
use Rattle.bw_level.specs.Changes.{change, plain}
use Rattle.bw_chain.specs.Chains.{page_at}
use Rattle.bw_chain.proofs.BareLemmas.{if_all, same_neighbour, same_side, under_change}
use Rattle.bw_chain.proofs.chains.Chains.neighbour.Goals as goal

pub returns-in-Some-Some-clause-there : goal.returns-in-Some-Some-clause-there
returns-in-Some-Some-clause-there c =
    let bases = c.args.self.now.bases in
    let s = c.in-Some-Some in
    c.neighbour_over.ensures.there bases
    ∙ sym (ap is_some (same_side (page_at c.args.self.now c.args.head) (change bases s.delta.now (plain s.base.now))
    (under_change bases (page_at c.args.self.now c.args.head) _ _ s.delta s.base c.under_writes.ensures.same s.is-0 s.is-1)))

pub returns-in-Some-Some-clause-page : goal.returns-in-Some-Some-clause-page
returns-in-Some-Some-clause-page c =
    let bases = c.args.self.now.bases in
    let s = c.in-Some-Some in
    if_all _ _ c.neighbour_over.result (λ found n. same_neighbour (page_at c.args.self.now c.args.head) (change bases s.delta.now (plain s.base.now))
    (under_change bases (page_at c.args.self.now c.args.head) _ _ s.delta s.base c.under_writes.ensures.same s.is-0 s.is-1) found.0 found.1.now found.2 (n bases)) c.neighbour_over.ensures.page
