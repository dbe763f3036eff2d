-- What a sweep does, on its way and at its end.
use Rattle.std.specs.Prelude.{◌≡◌, ℕ, ◌<◌, ◌≤◌, ◌^◌, List, [], None, length, slice_index}
use Rattle.std.specs.List.{AllByRecursion, Contains}
use Rattle.bw_level.specs.Before.{low_of}
use Rattle.bw_level.specs.Reading.{writes_over}
use Rattle.bw_level.specs.Scans.{high_of}
use Rattle.bw_level.specs.Slots.{Slot, Free, side_of_slot, slot_at}
use Rattle.bw_look.specs.View.{TreeView, contents_at}
use Rattle.bw_steps.specs.Releasing.{FreesUnreached, HasNoneToFree}

-- a page begins and ends where it did, and has the same right neighbour
pub record HasSameBounds (old new : Slot) : Type 0 where
  pub low : low_of new ≡ low_of old
  pub high : high_of new ≡ high_of old
  pub side : side_of_slot new ≡ side_of_slot old

-- each page begins and ends where it did, but for those whose identifiers were given back
abbrev pub HaveSameBoundsTaken : TreeView → TreeView → Type 0
HaveSameBoundsTaken old new =
    (p : ℕ) → (slot_at new.slots p ≡ Free → ⊥) → HasSameBounds (slot_at old.slots p) (slot_at new.slots p)

-- each page begins and ends where it did
abbrev pub HaveSameBounds : TreeView → TreeView → Type 0
HaveSameBounds old new = (p : ℕ) → HasSameBounds (slot_at old.slots p) (slot_at new.slots p)

-- no identifier is free that wasn't
abbrev pub KeepsTaken : TreeView → TreeView → Type 0
KeepsTaken old new = (p : ℕ) → slot_at new.slots p ≡ Free → slot_at old.slots p ≡ Free

-- The tree holds what it held as of its next stamp, which is the same, on the same levels of pages with the same bounds, and
-- nothing is staged.
pub record HoldsSame (old new : TreeView) : Type 0 where
  pub contents : contents_at new new.next ≡ contents_at old old.next
  pub levels : new.levels ≡ old.levels
  pub bounds : HaveSameBounds old new
  pub root : new.root ≡ old.root
  pub next : new.next ≡ old.next
  pub records : new.records ≡ old.records
  pub staged : new.staged ≡ None
  pub pages : length new.heads ≡ length old.heads
  pub taken : KeepsTaken old new

-- The tree holds what it held as of its next stamp, which is the same, on the same levels; no identifier was given back but of
-- pages to which nothing leads, and all other pages have the same bounds. Nothing is staged.
pub record HoldsButFreed (old new : TreeView) : Type 0 where
  pub contents : contents_at new new.next ≡ contents_at old old.next
  pub levels : new.levels ≡ old.levels
  pub bounds : HaveSameBoundsTaken old new
  pub freed : FreesUnreached old new
  pub root : new.root ≡ old.root
  pub next : new.next ≡ old.next
  pub records : new.records ≡ old.records
  pub staged : new.staged ≡ None
  pub pages : length new.heads ≡ length old.heads

-- pages that have no record are as they were, but for those whose identifiers were given back
abbrev pub KeepsPlainTaken : TreeView → TreeView → Type 0
KeepsPlainTaken old new = (p : ℕ) → slice_index old.heads p < 2 ^ 32 → (slot_at new.slots p ≡ Free → ⊥) →
    slot_at new.slots p ≡ slot_at old.slots p

-- pages that have no record are as they were
abbrev pub KeepsPlain : TreeView → TreeView → Type 0
KeepsPlain old new = (p : ℕ) → slice_index old.heads p < 2 ^ 32 → slot_at new.slots p ≡ slot_at old.slots p

-- the page has no record; the words of all others are as before, and so are pages that had no record
pub record IsPlainAt (old new : TreeView) (p : ℕ) : Type 0 where
  pub same : HoldsSame old new
  pub plain : slice_index new.heads p < 2 ^ 32
  pub others : (q : ℕ) → (q ≡ p → ⊥) → slice_index new.heads q ≡ slice_index old.heads q
  pub kept : KeepsPlain old new

-- the pages below a number have no records
abbrev pub ArePlainBelow : TreeView → ℕ → Type 0
ArePlainBelow tree n = (p : ℕ) → p < n → slice_index tree.heads p < 2 ^ 32

-- each page that has a record is one of these
abbrev pub HasAllRecorded : TreeView → List ℕ → Type 0
HasAllRecorded tree pages =
    (p : ℕ) → p < length tree.heads → 2 ^ 32 ≤ slice_index tree.heads p → Contains pages p

-- As of every stamp the tree holds what it held as of its next one, on the same levels of pages with the same bounds. There
-- is no record, so no page has one, nor a write over it, and the next stamp is 0. Identifiers were given back of pages to
-- which nothing leads, and no such page is left.
pub record IsSwept (old new : TreeView) : Type 0 where
  pub contents : (stamp : ℕ) → contents_at new stamp ≡ contents_at old old.next
  pub plain : AllByRecursion (λ w. w < 2 ^ 32) new.heads
  pub bare : (p : ℕ) → writes_over (slot_at new.slots p) ≡ []
  pub levels : new.levels ≡ old.levels
  pub bounds : HaveSameBoundsTaken old new
  pub freed : FreesUnreached old new
  pub all : HasNoneToFree new
  pub root : new.root ≡ old.root
  pub pages : length new.heads ≡ length old.heads
  pub records : new.records ≡ 0
  pub next : new.next ≡ 0
  pub staged : new.staged ≡ None
