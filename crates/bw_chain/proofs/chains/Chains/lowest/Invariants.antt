use Rattle.std.proofs.Common.{◌≡◌, length}
use Rattle.bw_level.specs.Walk.{walked}
use Rattle.bw_chain.specs.Chains.{Ends, link_of, slot_of_word}
use Rattle.bw_level.specs.Turns.{slot_without_writes}
use Rattle.bw_chain.proofs.chains.Chains.lowest.Given as goal

abbrev pub invariant-loop-under : goal.invariant-loop-under
invariant-loop-under l = record {
  ends : Ends l.self.bases l.self.records l.word;
  same : slot_without_writes (slot_of_word l.self.bases l.self.records l.fn.head) ≡ slot_without_writes (slot_of_word l.self.bases l.self.records l.word);
}

abbrev pub decreases-loop-under : goal.decreases-loop-under
decreases-loop-under l = length (walked (link_of l.self.records) (length l.self.records) l.word)
