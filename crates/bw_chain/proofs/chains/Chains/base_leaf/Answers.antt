use Rattle.bw_chain.specs.Chains.{slot_of_word}
use Rattle.bw_chain.proofs.PageScanLemmas.{base_on}
use Rattle.bw_chain.proofs.chains.Chains.base_leaf.Goals as goal

pub returns-clause-values : goal.returns-clause-values
returns-clause-values c =
    base_on c.args.self.now.bases (slot_of_word c.args.self.now.bases c.args.self.now.records c.args.head) _ _ c.in-Some.base c.in-Leaf.leaf
    c.in-Some.is c.in-Leaf.is c.under_writes.ensures.same c.under_writes.ensures.other
