use Rattle.std.proofs.Common.{◌≡◌, ◌+◌, ◌≤◌, length}
use Rattle.bw_level.specs.Walk.{walked}
use Rattle.bw_chain.specs.Chains.{link_of, slot_of_word}
use Rattle.bw_chain.specs.LeafChains.{LeadsToSame}
use Rattle.bw_level.specs.Reading.{writes_over}
use Rattle.bw_chain.proofs.chains.Chains.count_puts.Given as goal

abbrev pub invariant-loop-under : goal.invariant-loop-under
invariant-loop-under l = record {
  under : LeadsToSame l.self l.fn.head l.word;
  counted : l.count + length (writes_over (slot_of_word l.self.bases l.self.records l.word)) ≡ length (writes_over (slot_of_word l.self.bases l.self.records l.fn.head));
  bound : l.count + length (walked (link_of l.self.records) (length l.self.records) l.word) ≤ length l.self.records;
}

abbrev pub decreases-loop-under : goal.decreases-loop-under
decreases-loop-under l = length (walked (link_of l.self.records) (length l.self.records) l.word)
