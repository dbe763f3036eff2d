-- What the steps do by which pages are merged and the tree loses a level, and where they aren't needed.
use Rattle.std.specs.Prelude.{◌≡◌, ℕ}
use Rattle.bw_level.specs.Roots.{HasOneChild}
use Rattle.bw_tree.specs.TreeMerges.{HasLostChild, HasMerged, IsLowered, MayMerge}
use Rattle.bw_look.specs.RemovedPages.{HasNoNamerOfRemoved, IsNamerOfRemoved}
use Rattle.bw_look.specs.View.{TreeView}
use Rattle.bw_steps.specs.declared.steps.Did.{Did}
use Rattle.bw_steps.specs.declared.steps.Did.TheVariants.{Done, NotNeeded}

abbrev pub IsAbsorptionStep : TreeView → TreeView → ℕ → Did → Type 0
IsAbsorptionStep old new p Done = (q : ℕ) × (MayMerge old q p × HasMerged old new q p)
IsAbsorptionStep old new p NotNeeded = (new ≡ old) × ((q : ℕ) → MayMerge old q p → ⊥)

-- the page above, which still named a page that was removed, has no index entry any more at the key where that one began
pub record HasDroppedRemoved (old new : TreeView) (p parent : ℕ) : Type 0 where
  pub was : IsNamerOfRemoved old p parent
  pub lost : HasLostChild old new parent was.removed.low

abbrev pub IsAbsorptionFinishStep : TreeView → TreeView → ℕ → Did → Type 0
IsAbsorptionFinishStep old new p Done = (parent : ℕ) × HasDroppedRemoved old new p parent
IsAbsorptionFinishStep old new p NotNeeded = (new ≡ old) × HasNoNamerOfRemoved old p

abbrev pub IsLoweringStep : TreeView → TreeView → Did → Type 0
IsLoweringStep old new Done = (child : ℕ) × IsLowered old new child
IsLoweringStep old new NotNeeded = (new ≡ old) × ((child : ℕ) → HasOneChild old.slots old.root child → ⊥)
