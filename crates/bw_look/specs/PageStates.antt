-- What is told of one page: whether it is a base page by itself, its left neighbour, which page names it, and its state.
use Rattle.std.specs.Prelude.{◌≡◌, ℕ, suc, ◌<◌, ◌^◌, true, length, Some, slice_index}
use Rattle.bw_model.specs.Contents.{pairs_of_range}
use Rattle.bw_model.specs.Values.{ValueBytes}
use Rattle.bw_page.specs.Leaves.{LeafView}
use Rattle.bw_page.specs.Pages.{IsPage}
use Rattle.bw_page.specs.declared.pages.Page.{Page}
use Rattle.bw_page.specs.declared.pages.Page.TheVariants.{Leaf, Inner, Gone}
use Rattle.bw_level.specs.Before.{low_of}
use Rattle.bw_level.specs.Children.{HasChildAt}
use Rattle.bw_level.specs.Levels.{IsHomeAt}
use Rattle.bw_level.specs.Scans.{high_of}
use Rattle.bw_level.specs.Searches.{IsInLevels, plain_inner}
use Rattle.bw_level.specs.Slots.{is_leaf, side_of, slot_at}
use Rattle.bw_look.specs.Routing.{IsInLevel}
use Rattle.bw_look.specs.View.{TreeView, contents_at}

-- the page has a mapping word, which names a base page and no record
abbrev pub IsPlain : TreeView → ℕ → Type 0
IsPlain tree p = (p < length tree.heads) × (slice_index tree.heads p < 2 ^ 32)

-- q is a page of a level, and p is its right neighbour
abbrev pub IsLeft : TreeView → ℕ → ℕ → Type 0
IsLeft tree p q = IsInLevels tree.levels q × (side_of tree.slots q ≡ Some p)

-- the page stands on no level, or is the first of its level
abbrev pub HasNoLeft : TreeView → ℕ → Type 0
HasNoLeft tree p = (q : ℕ) → IsLeft tree p q → ⊥

-- in the range of this page of the level above the page p begins
pub record IsAbove (tree : TreeView) (p parent : ℕ) : Type 0 where
  pub level : ℕ
  pub in_level : IsInLevel tree p level
  pub home : IsHomeAt tree.slots tree.levels (low_of (slot_at tree.slots p)) (suc level) parent

-- this page of the level above names the page p: it has an index entry for it, at the key where p begins
pub record IsNamer (tree : TreeView) (p parent : ℕ) : Type 0 where
  pub level : ℕ
  pub in_level : IsInLevel tree p level
  pub above : IsInLevel tree parent (suc level)
  pub named : HasChildAt (slot_at tree.slots parent) (low_of (slot_at tree.slots p)) p

-- no page has: the page stands on no level or on the root's, or isn't named yet
abbrev pub HasNoNamer : TreeView → ℕ → Type 0
HasNoNamer tree p = (parent : ℕ) → IsNamer tree p parent → ⊥

-- a leaf's range and right neighbour, with all that the tree holds there as of a stamp
abbrev pub leaf_as_of : TreeView → ℕ → ℕ → LeafView ValueBytes
leaf_as_of tree p stamp =
    let page = slot_at tree.slots p in
    let pairs = pairs_of_range (contents_at tree stamp) (low_of page) (high_of page) in
    record { low = low_of page; high = high_of page; side = side_of tree.slots p; pairs = pairs }

-- the rules of a leaf
abbrev pub HasRules : LeafView ValueBytes → Type 0
HasRules leaf = IsPage leaf.low leaf.high leaf.side leaf.pairs

-- the state of a page as of a stamp: a leaf with the writes below it applied, or an inner page as it stands
abbrev pub IsState : TreeView → ℕ → ℕ → Page → Type 0
IsState tree p stamp (Leaf leaf) = (is_leaf (slot_at tree.slots p) ≡ true) × (leaf ≡ leaf_as_of tree p stamp)
IsState tree p stamp (Inner inner) = slot_at tree.slots p ≡ plain_inner inner
IsState tree p stamp (Gone left) = ⊥
