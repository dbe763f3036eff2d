use Rattle.std.proofs.Common.{sym, ◌∙◌}
use Rattle.bw_level.specs.Changes.{change, plain}
use Rattle.bw_chain.specs.Chains.{page_at}
use Rattle.bw_chain.proofs.BareLemmas.{if_all, same_end, same_high, under_change}
use Rattle.bw_chain.proofs.chains.Chains.end_for.Goals as goal

pub returns-in-Some-Some-clause-some : goal.returns-in-Some-Some-clause-some
returns-in-Some-Some-clause-some c =
    let bases = c.args.self.now.bases in
    let s = c.in-Some-Some in
    c.leaf_end_over.ensures.some bases
    ∙ sym (same_end c.args.target (page_at c.args.self.now c.args.head) (change bases s.delta.now (plain s.base.now))
    (under_change bases (page_at c.args.self.now c.args.head) _ _ s.delta s.base c.under_writes.ensures.same s.is-0 s.is-1))

pub returns-in-Some-Some-clause-end : goal.returns-in-Some-Some-clause-end
returns-in-Some-Some-clause-end c =
    let bases = c.args.self.now.bases in
    let s = c.in-Some-Some in
    if_all _ _ c.leaf_end_over.result (λ end is. is bases
    ∙ sym (same_high (page_at c.args.self.now c.args.head) (change bases s.delta.now (plain s.base.now))
    (under_change bases (page_at c.args.self.now c.args.head) _ _ s.delta s.base c.under_writes.ensures.same s.is-0 s.is-1))) c.leaf_end_over.ensures.end
