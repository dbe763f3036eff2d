-- Searches of a tree along rising keys.
use Rattle.std.specs.Prelude.{◌≡◌, ℕ, ◌<◌, T, length, Option, Some, None}
use Rattle.std.specs.Borrow.{Bor}
use Rattle.std.specs.List.{Contains}
use Rattle.std.specs.Option.{option_copied}
use Rattle.bw_key.specs.Order.{KeyBytes}
use Rattle.bw_model.specs.Contents.{is_below_end}
use Rattle.bw_page.specs.Inners.{InnerView}
use Rattle.bw_level.specs.Searches.{IsInLevels, plain_inner}
use Rattle.bw_level.specs.declared.target.Target.{Target}
use Rattle.bw_level.specs.Levels.{IsHome, IsHomeAt, row}
use Rattle.bw_level.specs.Scans.{high_of}
use Rattle.bw_level.specs.Slots.{slot_at}
use Rattle.bw_level.specs.Targets.{AreAtHome, StandsOnAll}
use Rattle.bw_look.specs.View.{TreeView}

-- what contracts see of searches: the tree, and where the range of the leaf ends that the last one found
pub record RoutesView : Type 0 where
  pub tree : TreeView
  pub end : Option KeyBytes

-- a page of a level above the leaves
pub record IsInnerPage (tree : TreeView) (p : ℕ) : Type 0 where
  pub in_levels : IsInLevels tree.levels p
  pub raised : 0 < in_levels.level

-- the page stands on this level
abbrev pub IsInLevel : TreeView → ℕ → ℕ → Type 0
IsInLevel tree p level = (level < length tree.levels) × Contains (row tree.levels level) p

-- it stands on no level
abbrev pub IsInNoLevel : TreeView → ℕ → Type 0
IsInNoLevel tree p = (level : ℕ) → IsInLevel tree p level → ⊥

-- a page of a level is this inner page
pub record IsInnerOf (tree : TreeView) (inner : InnerView) : Type 0 where
  pub page : ℕ
  pub in_levels : IsInLevels tree.levels page
  pub is : slot_at tree.slots page ≡ plain_inner inner

-- searches go on under an inner page of the tree, if they keep one
abbrev pub AreUnder : TreeView → Option (Bor InnerView) → Type 0
AreUnder tree None = Unit {0}
AreUnder tree (Some inner) = IsInnerOf tree inner.now

-- an inner page of the tree that doesn't end before the key
pub record IsKeptFor (tree : TreeView) (inner : InnerView) (key : KeyBytes) : Type 0 where
  pub of_tree : IsInnerOf tree inner
  pub ends_above : T (is_below_end inner.high key)

-- a search ends at the leaf where it begins, whose range ends here
pub record IsFoundEnd (tree : TreeView) (target : Target) (page : ℕ) (end : Option (Bor KeyBytes)) : Type 0 where
  pub homes : AreAtHome tree.slots tree.levels target page
  pub there : page < length tree.heads
  pub is : option_copied end ≡ high_of (slot_at tree.slots page)

-- the home of a key, whose range ends here
pub record IsFound (tree : TreeView) (key : KeyBytes) (end : Option KeyBytes) (page : ℕ) : Type 0 where
  pub home : IsHome tree.slots tree.levels key page
  pub there : page < length tree.heads
  pub is : end ≡ high_of (slot_at tree.slots page)

-- each key that stands for what is sought, on all pages, is at home on this page of a level
abbrev pub AreAtHomeOn : TreeView → Target → ℕ → ℕ → Type 0
AreAtHomeOn tree target level p =
    (key : KeyBytes) → StandsOnAll tree.slots target key → IsHomeAt tree.slots tree.levels key level p
