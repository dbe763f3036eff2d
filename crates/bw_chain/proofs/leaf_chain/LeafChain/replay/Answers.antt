use Rattle.std.proofs.Common.{ap}
use Rattle.bw_delta.specs.History.{pointed_to}
use Rattle.bw_chain.proofs.LeafChainLemmas.{replayed_as}
use Rattle.bw_chain.proofs.leaf_chain.LeafChain.replay.Goals as goal

pub returns-clause-replay : goal.returns-clause-replay
returns-clause-replay c = replayed_as c.args.self.now _ c.new.result (ap pointed_to c.deref.ensures.value) c.new.ensures.replay
