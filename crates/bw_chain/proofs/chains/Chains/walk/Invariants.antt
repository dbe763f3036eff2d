use Rattle.std.proofs.Common.{◌≡◌, ◌++◌, length}
use Rattle.bw_delta.specs.History.{pointed_to}
use Rattle.bw_level.specs.Walk.{walked}
use Rattle.bw_chain.specs.Chains.{link_of, slot_of_word}
use Rattle.bw_chain.specs.LeafChains.{LeadsToSame}
use Rattle.bw_level.specs.Reading.{writes_over}
use Rattle.bw_chain.proofs.chains.Chains.walk.Given as goal

abbrev pub invariant-loop-delta : goal.invariant-loop-delta
invariant-loop-delta l = record {
  under : LeadsToSame l.self l.fn.head l.word;
  found : pointed_to l.found.items ++ writes_over (slot_of_word l.self.bases l.self.records l.word) ≡ writes_over (slot_of_word l.self.bases l.self.records l.fn.head);
}

abbrev pub decreases-loop-delta : goal.decreases-loop-delta
decreases-loop-delta l = length (walked (link_of l.self.records) (length l.self.records) l.word)
