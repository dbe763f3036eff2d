-- The tree on which an index stands.
use Rattle.std.specs.Prelude.{◌≡◌, List, None}
use Rattle.bw_model.specs.Contents.{Contents}
use Rattle.bw_model.specs.Values.{ValueBytes}
use Rattle.bw_delta.specs.History.{HasDistinctStamps}
use Rattle.bw_level.specs.Levels.{AreLevels, row}
use Rattle.bw_level.specs.Reading.{row_writes}
use Rattle.bw_look.specs.Shapes.{shape_of}
use Rattle.bw_look.specs.View.{TreeView, contents_at}
use Rattle.bw_look.specs.declared.look.shape.PageShape.{PageShape}
use Rattle.bw_shape.specs.Limits.{AreWithinBut}
use Rattle.bw_batch.specs.Settings.{limits_of}
use Rattle.bw_batch.specs.View.{IndexView, contents_of, next_stamp_of, settings_of}

-- Levels as every tree keeps them, with nothing staged, that are what contracts see of the index. Each leaf that isn't due
-- is within its limits.
pub record IsTreeOf (index : IndexView) (tree : TreeView) : Type 0 where
  pub lawful : AreLevels tree.slots tree.root tree.levels
  pub distinct : HasDistinctStamps (row_writes tree.slots (row tree.levels 0))
  pub contents : contents_at tree tree.next ≡ contents_of index
  pub stamp : tree.next ≡ next_stamp_of index
  pub heads : tree.heads ≡ index.heads
  pub records : tree.records ≡ index.records
  pub pages : shape_of tree ≡ index.pages
  pub staged : tree.staged ≡ None
  pub within : AreWithinBut (limits_of (settings_of index)) tree index.due

-- the pages of an index
abbrev pub IsShapeOf : IndexView → List PageShape → Type 0
IsShapeOf index shape = (tree : TreeView) × IsTreeOf index tree × (shape ≡ shape_of tree)

-- the same where no more is told of an index than its contents
pub record IsTreeWith (contents : Contents ValueBytes) (tree : TreeView) : Type 0 where
  pub lawful : AreLevels tree.slots tree.root tree.levels
  pub distinct : HasDistinctStamps (row_writes tree.slots (row tree.levels 0))
  pub holds : contents_at tree tree.next ≡ contents
  pub staged : tree.staged ≡ None

abbrev pub IsShapeWith : Contents ValueBytes → List PageShape → Type 0
IsShapeWith contents shape = (tree : TreeView) × IsTreeWith contents tree × (shape ≡ shape_of tree)
