use Rattle.std.proofs.Common.{ap}
use Rattle.std.specs.Option.{option_copied}
use Rattle.bw_delta.specs.History.{pointed_to}
use Rattle.bw_chain.proofs.LeafChainLemmas.{paired_as}
use Rattle.bw_chain.proofs.leaf_chain.LeafChain.pairs_as_of.Goals as goal

pub returns : goal.returns
returns c =
    paired_as c.args.self.now _ c.args.low.now (option_copied c.args.high) (option_copied c.lower_end-end.result) c.args.stamp c.leaf_as_of.result
    (ap pointed_to c.deref.ensures.value) c.lower_end-end.ensures c.leaf_as_of.ensures
