-- What workers find of pages that are due, and the tree with the leaves that they consolidated.
use Rattle.std.specs.Prelude.{◌≡◌, ℕ, ◌≤◌, ◌⊎◌, true, false, List, [], ◌∷◌, length, Option, Some, None, is_some, ⊤}
use Rattle.std.specs.List.{AllByRecursion, Contains}
use Rattle.bw_model.specs.Values.{ValueBytes}
use Rattle.bw_page.specs.Leaves.{LeafView}
use Rattle.bw_level.specs.Levels.{row}
use Rattle.bw_level.specs.Slots.{slot_at}
use Rattle.bw_tree.specs.Making.{leaf_slot}
use Rattle.bw_look.specs.PageStates.{leaf_as_of}
use Rattle.bw_look.specs.Routing.{IsInLevel}
use Rattle.bw_look.specs.View.{TreeView}
use Rattle.bw_shape.specs.Limits.{LimitsView, IsWithin}
use Rattle.bw_tidy.specs.declared.findings.Finding.{Finding}
use Rattle.bw_tidy.specs.declared.leaf_findings.Findings.{Findings}

-- the page is a leaf, and this is what its chain makes of it as of a stamp
abbrev pub IsLeafOf : TreeView → ℕ → ℕ → LeafView ValueBytes → Type 0
IsLeafOf tree stamp p leaf = Contains (row tree.levels 0) p × (leaf ≡ leaf_as_of tree p stamp)

-- if the leaf was consolidated
abbrev pub IsLeafAt : TreeView → ℕ → ℕ → Option (LeafView ValueBytes) → Type 0
IsLeafAt tree stamp p None = ⊤
IsLeafAt tree stamp p (Some leaf) = IsLeafOf tree stamp p leaf

-- where nothing is left to do, a leaf is within the limits: as it stands, or as it was consolidated
abbrev pub FitsAt : TreeView → LimitsView → ℕ → Option (LeafView ValueBytes) → Type 0
FitsAt tree limits p None = Contains (row tree.levels 0) p → IsWithin limits (slot_at tree.slots p)
FitsAt tree limits p (Some leaf) = length leaf.pairs ≤ limits.page_max

-- what was found is so, as of a stamp, and a page at which there is nothing to do is no inner page
pub record IsFinding (tree : TreeView) (limits : LimitsView) (stamp : ℕ) (finding : Finding) : Type 0 where
  pub leaf : IsLeafAt tree stamp finding.page finding.leaf
  pub fits : finding.is_due ≡ false → FitsAt tree limits finding.page finding.leaf
  pub lowest : finding.is_due ≡ false → (level : ℕ) → IsInLevel tree finding.page level → level ≡ 0

-- What was found of leaves of a tree as of a stamp is so: those that fit are within the limits.
pub record AreFindings (tree : TreeView) (stamp : ℕ) (findings : Findings) : Type 0 where
  pub fitting : AllByRecursion (λ p. FitsAt tree findings.limits p None) findings.fitting.items
  pub due : AllByRecursion (IsFinding tree findings.limits stamp) findings.due.items

-- these go on from those, of leaves of this tree as of this stamp
pub record GoOn (tree : TreeView) (stamp : ℕ) (old new : Findings) : Type 0 where
  pub limits : new.limits ≡ old.limits
  pub found : AreFindings tree stamp old → AreFindings tree stamp new

-- each of these pages is left, or fits
abbrev pub AreLeft : List ℕ → List ℕ → List ℕ → Type 0
AreLeft pages fitting left = (p : ℕ) → Contains pages p → Contains left p ⊎ Contains fitting p

-- if there is more to do at the page it is among these, and if it was consolidated also among those
pub record IsListed (pages begun : List ℕ) (finding : Finding) : Type 0 where
  pub due : finding.is_due ≡ true → Contains pages finding.page
  pub leaf : finding.is_due ≡ true → is_some finding.leaf ≡ true → Contains begun finding.page

-- so are all pages
abbrev pub AreListed : List ℕ → List ℕ → List Finding → Type 0
AreListed pages begun = AllByRecursion (IsListed pages begun)

-- a leaf of this page was consolidated
abbrev pub IsPutBy : List Finding → ℕ → Type 0
IsPutBy [] p = ⊥
IsPutBy (finding ∷ findings) p = ((finding.page ≡ p) × (is_some finding.leaf ≡ true)) ⊎ IsPutBy findings p

-- the leaves that were consolidated are in the places of their chains
pub record ArePut (old new : TreeView) (findings : List Finding) : Type 0 where
  pub put : (p : ℕ) → IsPutBy findings p → slot_at new.slots p ≡ leaf_slot (leaf_as_of old p old.next)
  pub others : (p : ℕ) → (IsPutBy findings p → ⊥) → slot_at new.slots p ≡ slot_at old.slots p
