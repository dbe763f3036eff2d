-- A leaf of a tree, from its mapping word, and what a scan makes of it.
use Rattle.std.proofs.Common.{◌≡◌, ℕ, ◌<◌, true, false, List, length, get_or, Option, Result, Ok, Err, IfOk, sym, ap, subst, arith}
use Rattle.std.proofs.lemmas.List.{length-map}
use Rattle.std.specs.List.{Contains}
use Rattle.bw_delta.specs.History.{HasDistinctStamps}
use Rattle.bw_level.specs.Slots.{Slot, slot_at, is_leaf}
use Rattle.bw_chain.specs.declared.leaf_chain.LeafChain.{LeafChain}
use Rattle.bw_chain.specs.LeafChains.{IsLeafChain}
use Rattle.bw_level.specs.Levels.{AreLevels, row}
use Rattle.bw_level.specs.Reading.{writes_over, row_writes}
use Rattle.bw_level.specs.Changes.{Bases}
use Rattle.bw_chain.specs.Chains.{Records, Ends, slot_of_word, slots_of}
use Rattle.bw_look.specs.View.{ArePairsUnder, TreeView}
use Rattle.bw_look.specs.Trees.{IsStanding, StageWords, view_of}
use Rattle.bw_level.proofs.RouteLemmas.{home_leaf}
use Rattle.bw_look.proofs.ContentsLemmas.{found_at}
use Rattle.bw_look.proofs.LeafRangeLemmas.{page_distinct, own_home}

different : false ≡ true → ⊥
different e = cc

-- what is read of a leaf's chain has the pairs under the writes
pub read_values : {E : Type 0} (tree : TreeView) (root p : ℕ) (r : Result LeafChain E) → AreLevels tree.slots root tree.levels → IfOk r (IsLeafChain (slot_at tree.slots p)) → IfOk r (λ leaf. ArePairsUnder tree p leaf.base.now.pairs)
read_values tree root p (Ok leaf) lawful is = λ key home. sym (is.values key (home_leaf tree.slots root tree.levels lawful key p home).2)
read_values tree root p (Err e) lawful is = is

-- what is known of a leaf's mapping word
pub record LeafAt (tree : TreeView) (bases : Bases) (records : Records) (p head : ℕ) : Type 0 where
  pub slot : slot_at tree.slots p ≡ slot_of_word bases records head
  pub ends : Ends bases records head
  pub leaf : is_leaf (slot_of_word bases records head) ≡ true
  pub distinct : HasDistinctStamps (writes_over (slot_of_word bases records head))

module _ (heads : List ℕ) (bases : Bases) (records : Records) (root next bound : ℕ) (staged : Option StageWords) (tree : TreeView) (is : view_of heads bases records root next staged ≡ tree) (t : IsStanding heads bases records root bound) where
  pub lawful_here : AreLevels tree.slots root tree.levels
  lawful_here = subst (λ (v : TreeView). AreLevels v.slots root v.levels) is t.lawful

  pub distinct_here : HasDistinctStamps (row_writes tree.slots (row tree.levels 0))
  distinct_here = subst (λ (v : TreeView). HasDistinctStamps (row_writes v.slots (row v.levels 0))) is t.distinct

  -- a leaf has a mapping word
  pub leaf_held : (p : ℕ) → Contains (row tree.levels 0) p → p < length heads
  leaf_held p has =
      let own = own_home tree.slots root tree.levels lawful_here p has in
      let lt = (home_leaf tree.slots root tree.levels lawful_here own.0 p own.1).0 in
      let size : length (slots_of heads bases records) ≡ length tree.slots = ap (λ (v : TreeView). length v.slots) is in
      omega (arith, lt, size, length-map heads (slot_of_word bases records))

  pub leaf_at : (p head : ℕ) → Contains (row tree.levels 0) p → head ≡ get_or heads p head → LeafAt tree bases records p head
  leaf_at p head has read =
      let own = own_home tree.slots root tree.levels lawful_here p has in
      let at = found_at heads bases records root next bound staged tree own.0 p head is t own.1 read in
      record {
        slot = at.slot;
        ends = at.ends;
        leaf = at.leaf;
        distinct = subst (λ (o : Slot). HasDistinctStamps (writes_over o)) at.slot (page_distinct tree.slots (row tree.levels 0) p has distinct_here);
      }
