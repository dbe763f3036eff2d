-- A leaf as it is read from its chain.
use Rattle.std.specs.Prelude.{◌≡◌, ℕ, true}
use Rattle.std.specs.Option.{option_copied}
use Rattle.bw_delta.specs.History.{pointed_to}
use Rattle.bw_level.specs.Slots.{Slot, is_leaf, side_of_slot}
use Rattle.bw_level.specs.Before.{low_of}
use Rattle.bw_chain.specs.Chains.{ChainsView, IsChain, page_at}
use Rattle.bw_level.specs.Reading.{HasPairsUnder, writes_over}
use Rattle.bw_level.specs.Scans.{high_of}
use Rattle.bw_level.specs.Turns.{slot_without_writes}
use Rattle.bw_chain.specs.declared.leaf_chain.LeafChain.{LeafChain}

-- it has a leaf's writes, the pairs under them, and its bounds and right neighbour
pub record IsLeafChain (slot : Slot) (leaf : LeafChain) : Type 0 where
  pub writes : pointed_to leaf.writes.items ≡ writes_over slot
  pub values : HasPairsUnder slot leaf.base.now.pairs
  pub low : leaf.base.now.low ≡ low_of slot
  pub end : option_copied leaf.end ≡ high_of slot
  pub side : leaf.side ≡ side_of_slot slot

-- The second word leads to a leaf that is the same but for the writes.
pub record LeadsToSame (chains : ChainsView) (head word : ℕ) : Type 0 where
  pub ends : IsChain chains word
  pub leaf : is_leaf (page_at chains word) ≡ true
  pub same : slot_without_writes (page_at chains head) ≡ slot_without_writes (page_at chains word)
