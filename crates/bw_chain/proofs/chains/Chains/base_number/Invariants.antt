use Rattle.std.proofs.Common.{length}
use Rattle.bw_chain.specs.Chains.{link_of}
use Rattle.bw_chain.specs.Supports.{base_under}
use Rattle.bw_level.specs.Walk.{walked}
use Rattle.bw_chain.proofs.SupportLemmas.{LeadsTo}
use Rattle.bw_chain.proofs.chains.Chains.base_number.Given as goal

abbrev pub invariant-loop-under : goal.invariant-loop-under
invariant-loop-under l = LeadsTo l.self.records (base_under l.self.records l.fn.head) l.word

abbrev pub decreases-loop-under : goal.decreases-loop-under
decreases-loop-under l = length (walked (link_of l.self.records) (length l.self.records) l.word)
