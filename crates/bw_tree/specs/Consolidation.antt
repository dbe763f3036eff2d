-- Consolidation: what one chain makes of its base page takes the place of that page.
use Rattle.std.specs.Prelude.{◌≡◌, ℕ, ◌<◌, ◌^◌, None, slice_index, slice_set}
use Rattle.bw_level.specs.Slots.{slot_at}
use Rattle.bw_tree.specs.Making.{leaf_slot}
use Rattle.bw_look.specs.PageStates.{leaf_as_of}
use Rattle.bw_look.specs.View.{TreeView, contents_at}

-- The leaf is a base page with all that the tree held in the leaf's range as of its next stamp, and no write over it. All
-- other pages are as before, and so is what the tree holds.
pub record IsConsolidated (old new : TreeView) (p : ℕ) : Type 0 where
  pub page : slot_at new.slots p ≡ leaf_slot (leaf_as_of old p old.next)
  pub others : (q : ℕ) → (q ≡ p → ⊥) → slot_at new.slots q ≡ slot_at old.slots q
  pub contents : contents_at new new.next ≡ contents_at old old.next
  pub plain : slice_index new.heads p < 2 ^ 32
  pub heads : new.heads ≡ slice_set old.heads p (slice_index new.heads p)
  pub root : new.root ≡ old.root
  pub levels : new.levels ≡ old.levels
  pub records : new.records ≡ old.records
  pub next : new.next ≡ old.next
  pub staged : new.staged ≡ None

-- The page is a base page by itself. It is the same page as before, and so is all else.
pub record IsRebased (old new : TreeView) (p : ℕ) : Type 0 where
  pub view : new ≡ record old { heads = slice_set old.heads p (slice_index new.heads p) }
  pub plain : slice_index new.heads p < 2 ^ 32
