-- Splits: a page keeps its first entries, and a new page right of it has the others.
use Rattle.std.specs.Prelude.{◌≡◌, ℕ, ◌+◌, ◌<◌, ◌≤◌, ◌^◌, length, max, None, slice_index}
use Rattle.std.specs.List.{Contains}
use Rattle.bw_level.specs.Levels.{row}
use Rattle.bw_level.specs.Slots.{slot_at}
use Rattle.bw_level.specs.Splits.{HasNoRemovedAt, IsParted, level_parted, slot_entries}
use Rattle.bw_tree.specs.Identifiers.{IsUnused}
use Rattle.bw_look.specs.View.{TreeView, contents_at}

-- A page of a level that is a base page by itself and has more entries than those that stay, of which there are some. The
-- first entry that moves doesn't name a removed page.
pub record IsSplittable (tree : TreeView) (p keep : ℕ) : Type 0 where
  pub level : ℕ
  pub within : level < length tree.levels
  pub in_level : Contains (row tree.levels level) p
  pub plain : slice_index tree.heads p < 2 ^ 32
  pub some : 0 < keep
  pub fewer : keep < slot_entries (slot_at tree.slots p)
  pub live : HasNoRemovedAt tree.slots p keep

-- The page has parted in two, and on its level the new page, whose identifier was free or is the one behind all others,
-- stands right behind it. There is one record more. All other pages are as before, and so is what the tree holds.
pub record IsSplit (old new : TreeView) (p keep q : ℕ) : Type 0 where
  pub parted : IsParted old.slots new.slots p q keep
  pub levels : (level : ℕ) → level < length old.levels → Contains (row old.levels level) p →
      new.levels ≡ level_parted old.levels level p q
  pub contents : (stamp : ℕ) → contents_at new stamp ≡ contents_at old stamp
  pub unused : IsUnused old q
  pub pages : length new.heads ≡ max (length old.heads) (q + 1)
  pub heads : (r : ℕ) → (r ≡ p → ⊥) → (r ≡ q → ⊥) → slice_index new.heads r ≡ slice_index old.heads r
  pub changed : 2 ^ 32 ≤ slice_index new.heads p
  pub plain : slice_index new.heads q < 2 ^ 32
  pub root : new.root ≡ old.root
  pub records : new.records ≡ old.records + 1
  pub next : new.next ≡ old.next
  pub staged : new.staged ≡ None
