-- The list of a tree's pages.
use Rattle.std.specs.Prelude.{ℕ, zero, suc, List, [], ◌++◌, length, map, if◌then◌else◌}
use Rattle.bw_model.specs.Contents.{pairs_of_range}
use Rattle.bw_level.specs.Before.{low_of}
use Rattle.bw_level.specs.Levels.{row}
use Rattle.bw_level.specs.Reading.{writes_over}
use Rattle.bw_level.specs.Scans.{high_of}
use Rattle.bw_level.specs.Slots.{Slot, is_leaf, slot_at}
use Rattle.bw_level.specs.Splits.{slot_entries}
use Rattle.bw_look.specs.View.{TreeView, contents_at}
use Rattle.bw_look.specs.declared.look.shape.PageShape.{PageShape}

-- how many pairs the tree holds in a leaf's range as of its next stamp, or how many children an inner page has
abbrev pub pairs_on : TreeView → Slot → ℕ
pairs_on tree slot =
    let pairs = pairs_of_range (contents_at tree tree.next) (low_of slot) (high_of slot) in
    if is_leaf slot then length pairs else slot_entries slot

-- a page of a level: its range, its pairs or children, and how many writes lie over it
abbrev pub page_shape : TreeView → ℕ → ℕ → PageShape
page_shape tree level p =
    let slot = slot_at tree.slots p in
    record {
      page = p;
      level = level;
      low = low_of slot;
      high = high_of slot;
      pairs = pairs_on tree slot;
      writes = length (writes_over slot);
    }

-- the pages of a level, in their order
abbrev pub level_shape : TreeView → ℕ → List PageShape
level_shape tree level = map (page_shape tree level) (row tree.levels level)

-- those of the first levels, of which there are so many
abbrev pub levels_shape : TreeView → ℕ → List PageShape
levels_shape tree zero = []
levels_shape tree (suc n) = levels_shape tree n ++ level_shape tree n

-- those of all levels, the lowest level first
abbrev pub shape_of : TreeView → List PageShape
shape_of tree = levels_shape tree (length tree.levels)
