-- Merges: a page is absorbed by its left neighbour, its index entry goes, and a root that has one child alone goes.
use Rattle.std.specs.Prelude.{◌≡◌, ℕ, ◌+◌, ◌<◌, ◌≤◌, ◌^◌, length, Some, None, slice_index, slice_set}
use Rattle.std.specs.List.{Contains}
use Rattle.bw_key.specs.Order.{KeyBytes}
use Rattle.bw_level.specs.Children.{HasDroppedChild, MayDropChild}
use Rattle.bw_level.specs.Freeing.{IsAside}
use Rattle.bw_level.specs.Levels.{row}
use Rattle.bw_level.specs.Merges.{IsMerged, level_merged}
use Rattle.bw_level.specs.Roots.{IsRootRemoved, levels_lowered}
use Rattle.bw_level.specs.Slots.{side_of}
use Rattle.bw_look.specs.PageStates.{IsNamer}
use Rattle.bw_look.specs.View.{TreeView, contents_at}

-- two neighbours of a level, base pages by themselves, that one page of the level above names
pub record MayMerge (tree : TreeView) (p q : ℕ) : Type 0 where
  pub level : ℕ
  pub within : level < length tree.levels
  pub in_level : Contains (row tree.levels level) p
  pub linked : side_of tree.slots p ≡ Some q
  pub plain : slice_index tree.heads p < 2 ^ 32
  pub other_plain : slice_index tree.heads q < 2 ^ 32
  pub parent : ℕ
  pub namer : IsNamer tree p parent
  pub other_namer : IsNamer tree q parent

-- The page q was absorbed by its left neighbour p, over which there is a record now, and stands on its level no more. There
-- are two records more. All other pages are as before, and so is what the tree holds.
pub record HasMerged (old new : TreeView) (p q : ℕ) : Type 0 where
  pub merged : IsMerged old.slots new.slots p q
  pub levels : (level : ℕ) → level < length old.levels → Contains (row old.levels level) p →
      new.levels ≡ level_merged old.levels level q
  pub contents : (stamp : ℕ) → contents_at new stamp ≡ contents_at old stamp
  pub heads : new.heads ≡ slice_set old.heads p (slice_index new.heads p)
  pub changed : 2 ^ 32 ≤ slice_index new.heads p
  pub root : new.root ≡ old.root
  pub records : new.records ≡ old.records + 2
  pub next : new.next ≡ old.next
  pub staged : new.staged ≡ None

-- an inner page that is a base page by itself, and that names a removed page at the separator, which isn't its first one
pub record MayLoseChild (tree : TreeView) (parent : ℕ) (sep : KeyBytes) : Type 0 where
  pub drops : MayDropChild tree.slots tree.levels parent sep
  pub plain : slice_index tree.heads parent < 2 ^ 32

-- The page no longer names the child at the separator, and there is a record over it. There is one record more. All other
-- pages are as before, and so are the levels and what the tree holds.
pub record HasLostChild (old new : TreeView) (parent : ℕ) (sep : KeyBytes) : Type 0 where
  pub dropped : HasDroppedChild old.slots new.slots parent sep
  pub levels : new.levels ≡ old.levels
  pub contents : (stamp : ℕ) → contents_at new stamp ≡ contents_at old stamp
  pub heads : new.heads ≡ slice_set old.heads parent (slice_index new.heads parent)
  pub changed : 2 ^ 32 ≤ slice_index new.heads parent
  pub root : new.root ≡ old.root
  pub records : new.records ≡ old.records + 1
  pub next : new.next ≡ old.next
  pub staged : new.staged ≡ None

-- The root's only child, into which it was removed, is the root. The old root, which has no record, stands on no level, and
-- no page of a level names it. All other pages are as before, and so is what the tree holds.
pub record IsLowered (old new : TreeView) (child : ℕ) : Type 0 where
  pub removed : IsRootRemoved old.slots new.slots old.root child
  pub aside : IsAside new.slots new.levels old.root
  pub levels : new.levels ≡ levels_lowered old.levels
  pub contents : (stamp : ℕ) → contents_at new stamp ≡ contents_at old stamp
  pub heads : new.heads ≡ slice_set old.heads old.root (slice_index new.heads old.root)
  pub plain : slice_index new.heads old.root < 2 ^ 32
  pub root : new.root ≡ child
  pub records : new.records ≡ old.records
  pub next : new.next ≡ old.next
  pub staged : new.staged ≡ None
