-- A leaf as it is read from its chain.
use Rattle.std.proofs.Common.{◌≡◌, ℕ, ◌&&◌, List, [], ◌∷◌, Option, Result, Ok, Err, IfOk, refl, sym, ap, ◌∙◌}
use Rattle.std.specs.Option.{option_copied}
use Rattle.bw_key.specs.Order.{KeyBytes}
use Rattle.bw_model.specs.Contents.{is_below_end}
use Rattle.bw_model.specs.Values.{ValueBytes}
use Rattle.bw_delta.specs.Writes.{WriteView}
use Rattle.bw_delta.specs.History.{pointed_to}
use Rattle.bw_delta.specs.PagePairs.{ArePairsAsOf, value_in_parts}
use Rattle.bw_delta.specs.Replays.{ReplayView, IsReplayOf}
use Rattle.bw_chain.specs.declared.leaf_chain.LeafChain.{LeafChain}
use Rattle.bw_level.specs.Slots.{Slot, Free, Gone, Live, side_of_slot}
use Rattle.bw_level.specs.Before.{low_of}
use Rattle.bw_chain.specs.LeafChains.{IsLeafChain}
use Rattle.bw_level.specs.Reading.{HasPairsUnder, writes_over}
use Rattle.bw_level.specs.Scans.{ArePairsOn, IsLeafReplay, IsLowerEnd, high_of}
use Rattle.bw_level.specs.Turns.{slot_without_writes}
use Rattle.bw_chain.proofs.ReadingLemmas.{base_alike}
use Rattle.bw_chain.proofs.PageScanLemmas.{pairs_on, replayed_leaf}

bare_low : (slot : Slot) → low_of (slot_without_writes slot) ≡ low_of slot
bare_low Free = refl
bare_low (Gone l) = refl
bare_low (Live s) = refl

bare_high : (slot : Slot) → high_of (slot_without_writes slot) ≡ high_of slot
bare_high Free = refl
bare_high (Gone l) = refl
bare_high (Live s) = refl

bare_side : (slot : Slot) → side_of_slot (slot_without_writes slot) ≡ side_of_slot slot
bare_side Free = refl
bare_side (Gone l) = refl
bare_side (Live s) = refl

-- what is read of a leaf that is the same but for the writes is the leaf's
pub read_under : (slot under : Slot) (leaf : LeafChain) → slot_without_writes slot ≡ slot_without_writes under → pointed_to leaf.writes.items ≡ writes_over slot → HasPairsUnder under leaf.base.now.pairs →
    leaf.base.now.low ≡ low_of under → option_copied leaf.end ≡ high_of under → leaf.side ≡ side_of_slot under → IsLeafChain slot leaf
read_under slot under leaf same writes values low end side = record {
  writes = writes;
  values = base_alike slot under leaf.base.now.pairs same values;
  low = low ∙ sym (bare_low under) ∙ sym (ap low_of same) ∙ bare_low slot;
  end = end ∙ sym (bare_high under) ∙ sym (ap high_of same) ∙ bare_high slot;
  side = side ∙ sym (bare_side under) ∙ sym (ap side_of_slot same) ∙ bare_side slot;
}

-- its replay is one of each leaf that is read so
pub replayed_as : {E : Type 0} (leaf : LeafChain) (writes : List WriteView) (r : Result ReplayView E) → writes ≡ pointed_to leaf.writes.items →
    IfOk r (IsReplayOf (value_in_parts (leaf.base.now ∷ [])) (option_copied leaf.end) writes) → IfOk r (λ replay. (slot : Slot) → IsLeafChain slot leaf → IsLeafReplay slot replay)
replayed_as leaf writes (Ok replay) all so = λ slot is. replayed_leaf slot leaf.base.now writes (option_copied leaf.end) replay (all ∙ is.writes) is.end is.values so
replayed_as leaf writes (Err e) all so = so

-- and so are its pairs
pub paired_as : {E : Type 0} (leaf : LeafChain) (writes : List WriteView) (low : KeyBytes) (high end : Option KeyBytes) (stamp : ℕ) (r : Result (List (KeyBytes × ValueBytes)) E) → writes ≡ pointed_to leaf.writes.items →
    IsLowerEnd (option_copied leaf.end) high end → IfOk r (ArePairsAsOf (leaf.base.now ∷ []) low end writes stamp) → IfOk r (λ pairs. (slot : Slot) → IsLeafChain slot leaf → ArePairsOn slot low high stamp pairs)
paired_as leaf writes low high end stamp (Ok pairs) all lower so =
    λ slot is. pairs_on slot leaf.base.now writes low high end stamp pairs (all ∙ is.writes) (λ key. lower key ∙ ap (λ (o : Option KeyBytes). is_below_end o key && is_below_end high key) is.end) is.values so
paired_as leaf writes low high end stamp (Err e) all lower so = so
