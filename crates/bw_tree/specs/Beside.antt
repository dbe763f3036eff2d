-- A batch beside whose posting leaves were consolidated.
use Rattle.std.specs.Prelude.{◌≡◌, ℕ, ◌≤◌, List}
use Rattle.std.specs.List.{AllByRecursion, Contains}
use Rattle.bw_level.specs.Levels.{row}
use Rattle.bw_level.specs.Slots.{slot_at}
use Rattle.bw_level.specs.Turns.{slot_without_writes}
use Rattle.bw_look.specs.Folding.{put_each, put_own_words}
use Rattle.bw_look.specs.PageStates.{leaf_as_of}
use Rattle.bw_tree.specs.Making.{leaf_slot}
use Rattle.bw_tree.specs.Stages.{LeavesHaveAll, adopted_stage}
use Rattle.bw_look.specs.View.{TreeView, contents_at, contents_with}
use Rattle.bw_look.specs.declared.folded.Folded.{Folded}

-- each is what a leaf's chain makes of it as of the next stamp
abbrev pub AreFolded : TreeView → List Folded → Type 0
AreFolded tree = AllByRecursion
    (λ f. Contains (row tree.levels 0) f.page × (f.leaf ≡ leaf_as_of tree f.page tree.next))

-- the tree with their own words for these pages
abbrev pub with_own_words : TreeView → List Folded → TreeView
with_own_words tree folded = record tree { heads = put_own_words tree.heads folded }

-- and with the leaves in the places of their chains
abbrev pub folded_tree : TreeView → List Folded → TreeView
folded_tree tree folded =
    record (with_own_words tree folded) { slots = put_each (λ f. leaf_slot f.leaf) tree.slots folded }

-- The tree behind its adoption, with these mapping words: from the batch's first stamp on it holds what the staged writes make
-- of what stood before, and each page is as before, or the leaf that took the place of its chain, under the writes that were
-- posted to it.
pub record IsAdoptedBeside (old new : TreeView) (folded : List Folded) (words : List ℕ) : Type 0 where
  pub contents : (stamp : ℕ) → old.next ≤ stamp → contents_at new stamp ≡ contents_with old stamp
  pub pages : (p : ℕ) → slot_without_writes (slot_at new.slots p)
      ≡ slot_without_writes (slot_at (folded_tree old folded).slots p)
  pub writes : LeavesHaveAll (folded_tree old folded) new
  pub root : new.root ≡ old.root
  pub levels : new.levels ≡ old.levels
  pub heads : new.heads ≡ words
  pub records : new.records ≡ old.records
  pub next : new.next ≡ old.next
  pub staged : new.staged ≡ adopted_stage old.staged
