-- What the steps of restructuring do, and where they aren't needed.
use Rattle.std.specs.Prelude.{◌≡◌, ℕ, ◌<◌, ◌≤◌, ◌^◌, ◌⊎◌, None, slice_index}
use Rattle.bw_key.specs.Order.{KeyBytes}
use Rattle.bw_level.specs.Slots.{side_of}
use Rattle.bw_look.specs.Unnamed.{HasNoUnnamed, IsUnnamed}
use Rattle.bw_tree.specs.TreeChildren.{IsNamed}
use Rattle.bw_tree.specs.Consolidation.{IsConsolidated, IsRebased}
use Rattle.bw_tree.specs.TreeRoots.{HasNewRoot}
use Rattle.bw_look.specs.Routing.{IsInLevel}
use Rattle.bw_tree.specs.TreeSplits.{IsSplit, IsSplittable}
use Rattle.bw_look.specs.View.{TreeView}
use Rattle.bw_steps.specs.declared.steps.Did.{Did}
use Rattle.bw_steps.specs.declared.steps.Did.TheVariants.{Done, NotNeeded}

-- a page of a level that had a record is a base page by itself: a leaf as of the next stamp, an inner page as it was
pub record HasLostChain (old new : TreeView) (p : ℕ) : Type 0 where
  pub level : ℕ
  pub in_level : IsInLevel old p level
  pub had : 2 ^ 32 ≤ slice_index old.heads p
  pub leaf : level ≡ 0 → IsConsolidated old new p
  pub inner : 0 < level → IsRebased old new p

abbrev pub IsConsolidationStep : TreeView → TreeView → ℕ → Did → Type 0
IsConsolidationStep old new p Done = HasLostChain old new p
IsConsolidationStep old new p NotNeeded = (new ≡ old) × (slice_index old.heads p < 2 ^ 32)

abbrev pub IsSplitStep : TreeView → TreeView → ℕ → ℕ → Did → Type 0
IsSplitStep old new p keep Done = IsSplittable old p keep × ((q : ℕ) × IsSplit old new p keep q)
IsSplitStep old new p keep NotNeeded = (new ≡ old) × (IsSplittable old p keep → ⊥)

abbrev pub IsRootStep : TreeView → TreeView → Did → Type 0
IsRootStep old new Done = (t : ℕ) × HasNewRoot old new t
IsRootStep old new NotNeeded = (new ≡ old) × (side_of old.slots old.root ≡ None)

-- the right neighbour of the page, which the level above didn't name, has its index entry there, on this page
pub record IsFinished (old new : TreeView) (p parent : ℕ) : Type 0 where
  pub sep : KeyBytes
  pub side : ℕ
  pub unnamed : IsUnnamed old p parent sep side
  pub named : IsNamed old new parent sep side

abbrev pub IsFinishStep : TreeView → TreeView → ℕ → Did → Type 0
IsFinishStep old new p Done = (parent : ℕ) × IsFinished old new p parent
IsFinishStep old new p NotNeeded = (new ≡ old) × HasNoUnnamed old p

-- this page of the level above is to name the right neighbour of p
abbrev pub IsNamerToBe : TreeView → ℕ → ℕ → Type 0
IsNamerToBe tree p parent = (sep : KeyBytes) × ((q : ℕ) × IsUnnamed tree p parent sep q)

-- the same tree, of which one such page may be a base page by itself now
abbrev pub IsSameOver : (ℕ → Type 0) → TreeView → TreeView → Type 0
IsSameOver IsOne old new = (new ≡ old) ⊎ ((p : ℕ) × (IsOne p × IsRebased old new p))
