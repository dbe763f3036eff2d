-- The life of a batch: staged, adopted, and then accepted or undone.
use Rattle.std.specs.Prelude.{◌≡◌, ℕ, ◌+◌, ◌^◌, ◌<◌, ◌≤◌, Bool, true, false, Option, Some, None}
use Rattle.std.specs.Prelude.{List, ◌++◌, length, filter, take, slice_get, slice_index}
use Rattle.std.specs.List.{Contains}
use Rattle.std.specs.List.Sorted.{IsPermutation}
use Rattle.bw_model.specs.Model.{contents_after}
use Rattle.bw_model.specs.declared.operations.Op.{Op}
use Rattle.bw_core.specs.World.{Meets, times}
use Rattle.bw_delta.specs.Writes.{WriteView}
use Rattle.bw_delta.specs.Batches.{writes_of}
use Rattle.bw_chain.specs.PlacedWrites.{writes_at_places}
use Rattle.bw_level.specs.Levels.{IsHome, row}
use Rattle.bw_level.specs.Reading.{writes_over}
use Rattle.bw_level.specs.Slots.{slot_at, has_key}
use Rattle.bw_look.specs.View.{TreeView, StageView, contents_at, contents_with, staged_writes}

-- the tree with a batch staged, of so many operations: there are records for these writes, and all else is as before
abbrev pub staged_with : TreeView → ℕ → List WriteView → TreeView
staged_with tree count writes =
    record tree {
      records = tree.records + length writes;
      staged = Some (record {
        slots = tree.slots;
        levels = tree.levels;
        heads = tree.heads;
        records = tree.records;
        ops = count;
        writes = writes;
        adopted = false;
      });
    }

-- the same with the writes of these operations, in their order
abbrev pub staged_on : TreeView → List Op → TreeView
staged_on tree ops = staged_with tree (length ops) (writes_of tree.next ops)

-- each operation that writes is at one of these places, and at no other of them; those that read may be among them, too
abbrev pub AreAllWritePlaces : List Op → List ℕ → Type 0
AreAllWritePlaces ops places = (base : ℕ) → IsPermutation (writes_of base ops) (writes_at_places base ops places)

-- the second tree is the first with the writes of a batch staged, in some order
pub record IsStagedFor (old new : TreeView) (ops : List Op) : Type 0 where
  pub writes : List WriteView
  pub same : IsPermutation (writes_of old.next ops) writes
  pub is : new ≡ staged_with old (length ops) writes

abbrev pub is_adopted : Option StageView → Bool
is_adopted None = false
is_adopted (Some stage) = stage.adopted

-- with the staged writes among them, a read as of the stamp of an operation sees the map before it
abbrev pub IsReadInTurn : TreeView → TreeView → List Op → Type 0
IsReadInTurn old new ops =
    (i : ℕ) → contents_with new (old.next + i) ≡ contents_after (take i ops) (contents_at old old.next)

-- the stage once its writes stand in the chains
abbrev pub adopted_stage : Option StageView → Option StageView
adopted_stage None = None
adopted_stage (Some stage) = Some (record stage { adopted = true })

-- the tree as it was before the batch
abbrev pub undone_tree : TreeView → Option StageView → TreeView
undone_tree tree None = tree
undone_tree tree (Some stage) =
    record tree {
      slots = stage.slots;
      levels = stage.levels;
      heads = stage.heads;
      records = stage.records;
      staged = None;
    }

-- the tree behind the batch
abbrev pub accepted_tree : TreeView → Option StageView → TreeView
accepted_tree tree None = tree
accepted_tree tree (Some stage) = record tree { next = tree.next + stage.ops; staged = None }

-- of the staged writes, those of a page's range, with the writes that the page has
abbrev pub writes_with : TreeView → ℕ → List WriteView
writes_with tree p =
    let page = slot_at tree.slots p in
    filter (λ w. has_key page w.key) (staged_writes tree.staged) ++ writes_over page

-- once they stand in the chains, each leaf has them, in some order
abbrev pub LeavesHaveAll : TreeView → TreeView → Type 0
LeavesHaveAll old new =
    (p : ℕ) → Contains (row old.levels 0) p →
    IsPermutation (writes_with old p) (writes_over (slot_at new.slots p))

-- The new part of a page's chain is some order of the staged records whose keys are at home there, over the word before.
pub record IsPostedTo (tree : TreeView) (stage : StageView) (links : List ℕ) (head p : ℕ) : Type 0 where
  pub chain : List ℕ
  pub way : Meets (2 ^ 32 + stage.records) links head chain (slice_index tree.heads p)
  pub once : (r : ℕ) → times r chain ≤ 1
  pub here : (r : ℕ) (w : WriteView) → slice_get stage.writes r ≡ Some w → IsHome tree.slots tree.levels w.key p →
      0 < times r chain
  pub only : (r : ℕ) (w : WriteView) → slice_get stage.writes r ≡ Some w → 0 < times r chain →
      IsHome tree.slots tree.levels w.key p

-- the words that a board was closed with have the staged records posted, each to the page of its key
pub record IsPosted (tree : TreeView) (stage : StageView) (heads links : List ℕ) : Type 0 where
  pub pages : length heads ≡ length tree.heads
  pub records : length links ≡ length stage.writes
  pub chains : (p : ℕ) → p < length tree.heads → IsPostedTo tree stage links (slice_index heads p) p

abbrev pub IsPostedStage : TreeView → Option StageView → List ℕ → List ℕ → Type 0
IsPostedStage tree None heads links = ⊥
IsPostedStage tree (Some stage) heads links = (stage.adopted ≡ false) × IsPosted tree stage heads links
