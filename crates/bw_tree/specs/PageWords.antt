-- Mapping words of some pages.
use Rattle.std.specs.Prelude.{◌≡◌, ℕ, ◌<◌, ◌≤◌, false, List, length, map, slice_get, slice_index, Option, Some, None}
use Rattle.std.specs.List.{AllByRecursion}
use Rattle.bw_core.specs.World.{times}
use Rattle.bw_delta.specs.Writes.{WriteView}
use Rattle.bw_level.specs.Levels.{IsHome}
use Rattle.bw_look.specs.View.{TreeView, StageView}
use Rattle.bw_tree.specs.Stages.{IsPostedTo}

-- the mapping words of pages
abbrev pub words_of : List ℕ → List ℕ → List ℕ
words_of heads = map (slice_index heads)

-- pages of a tree, none of them twice
pub record ArePages (tree : TreeView) (pages : List ℕ) : Type 0 where
  pub once : (p : ℕ) → times p pages ≤ 1
  pub there : AllByRecursion (λ p. p < length tree.heads) pages

-- The words that a board over the words of some pages was closed with have the staged records posted, each to the page of
-- its key, which is one of them.
pub record IsPostedOn (tree : TreeView) (stage : StageView) (pages heads links : List ℕ) : Type 0 where
  pub listed : ArePages tree pages
  pub count : length heads ≡ length pages
  pub records : length links ≡ length stage.writes
  pub chains : (i p : ℕ) → slice_get pages i ≡ Some p → IsPostedTo tree stage links (slice_index heads i) p
  pub homes : (r p : ℕ) (w : WriteView) → slice_get stage.writes r ≡ Some w →
      IsHome tree.slots tree.levels w.key p → 0 < times p pages

abbrev pub IsPostedStageOn : TreeView → Option StageView → List ℕ → List ℕ → List ℕ → Type 0
IsPostedStageOn tree None pages heads links = ⊥
IsPostedStageOn tree (Some stage) pages heads links =
    (stage.adopted ≡ false) × IsPostedOn tree stage pages heads links
