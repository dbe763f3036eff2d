use Rattle.std.proofs.Common.{◌≡◌, ◌++◌, true, length}
use Rattle.bw_delta.specs.Batches.{writes_to}
use Rattle.bw_delta.specs.History.{pointed_to}
use Rattle.bw_level.specs.Slots.{is_leaf}
use Rattle.bw_level.specs.Walk.{walked}
use Rattle.bw_chain.specs.Chains.{Ends, link_of, slot_of_word}
use Rattle.bw_level.specs.Reading.{writes_over}
use Rattle.bw_chain.proofs.chains.Chains.writes_at.Given as goal

abbrev pub invariant-loop-delta : goal.invariant-loop-delta
invariant-loop-delta l = record {
  ends : Ends l.self.bases l.self.records l.word;
  leaf : is_leaf (slot_of_word l.self.bases l.self.records l.word) ≡ true;
  found : pointed_to l.found.items ++ writes_to l.key (writes_over (slot_of_word l.self.bases l.self.records l.word)) ≡ writes_to l.key (writes_over (slot_of_word l.self.bases l.self.records l.fn.head));
}

abbrev pub decreases-loop-delta : goal.decreases-loop-delta
decreases-loop-delta l = length (walked (link_of l.self.records) (length l.self.records) l.word)
