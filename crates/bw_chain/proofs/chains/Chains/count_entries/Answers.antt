use Rattle.std.proofs.Common.{sym, ◌∙◌}
use Rattle.bw_level.specs.Changes.{change, plain}
use Rattle.bw_chain.specs.Chains.{page_at}
use Rattle.bw_chain.proofs.BareLemmas.{same_entries, under_change}
use Rattle.bw_chain.proofs.chains.Chains.count_entries.Goals as goal

pub returns-in-Some-Some : goal.returns-in-Some-Some
returns-in-Some-Some c =
    let bases = c.args.self.now.bases in
    let s = c.in-Some-Some in
    c.count_over.ensures bases
    ∙ sym (same_entries (page_at c.args.self.now c.args.head) (change bases s.delta.now (plain s.base.now))
    (under_change bases (page_at c.args.self.now c.args.head) _ _ s.delta s.base c.under_writes.ensures.same s.is-0 s.is-1))
