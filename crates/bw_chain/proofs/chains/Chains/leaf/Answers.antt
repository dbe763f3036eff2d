use Rattle.bw_chain.specs.Chains.{page_at}
use Rattle.bw_chain.proofs.LeafChainLemmas.{read_under}
use Rattle.bw_chain.proofs.chains.Chains.leaf.Goals as goal

pub returns : goal.returns
returns c =
    read_under (page_at c.args.self.now c.args.head) (page_at c.args.self.now c.in_ok-writes.word) _ c.in_ok-writes.ensures.under.same c.in_ok-writes.ensures.writes
    c.base_leaf.ensures.values c.base_leaf.ensures.low c.end-side.ensures.high c.end-side.ensures.side
