-- The root grows: a new root one level above it has it and its right neighbour as children.
use Rattle.std.specs.Prelude.{◌≡◌, ℕ, suc, ◌<◌, ◌^◌, None, slice_index}
use Rattle.bw_key.specs.Order.{KeyBytes}
use Rattle.bw_page.specs.Inners.{InnerView}
use Rattle.bw_chain.specs.Placing.{put_at}
use Rattle.bw_level.specs.Roots.{IsGrown, IsNeighbour, levels_grown, root_over}
use Rattle.bw_level.specs.Searches.{plain_inner}
use Rattle.bw_level.specs.Slots.{Live, slot_at}
use Rattle.bw_tree.specs.Identifiers.{IsUnused}
use Rattle.bw_look.specs.View.{TreeView, contents_at}

-- an inner page one level above the root, for all keys, with the root and its right neighbour as its children
pub record IsOverRoot (tree : TreeView) (inner : InnerView) : Type 0 where
  pub level : ℕ
  pub high : KeyBytes
  pub side : ℕ
  pub neighbour : IsNeighbour (slot_at tree.slots tree.root) level high side
  pub is : plain_inner inner ≡ Live (root_over (suc level) tree.root high side)

-- The root and its right neighbour are the children of a new page, whose identifier was free or is the one behind all
-- others. It is the root now, a base page by itself, alone on a level above the others. All other pages are as before, and
-- so is what the tree holds.
pub record HasNewRoot (old new : TreeView) (t : ℕ) : Type 0 where
  pub grown : IsGrown old.slots new.slots old.root t
  pub levels : new.levels ≡ levels_grown old.levels t
  pub contents : (stamp : ℕ) → contents_at new stamp ≡ contents_at old stamp
  pub unused : IsUnused old t
  pub heads : new.heads ≡ put_at old.heads t (slice_index new.heads t)
  pub plain : slice_index new.heads t < 2 ^ 32
  pub root : new.root ≡ t
  pub records : new.records ≡ old.records
  pub next : new.next ≡ old.next
  pub staged : new.staged ≡ None
