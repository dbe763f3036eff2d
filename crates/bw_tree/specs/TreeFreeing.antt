-- Identifiers that are given back.
use Rattle.std.specs.Prelude.{◌≡◌, ℕ, suc, length, take, None}
use Rattle.bw_level.specs.Freeing.{IsUnreached, IsFreed}
use Rattle.bw_level.specs.Slots.{Free, slot_at}
use Rattle.bw_look.specs.View.{TreeView, contents_at}

-- an identifier that isn't free, of a page on no level to which nothing leads
pub record MayBeFreed (tree : TreeView) (p : ℕ) : Type 0 where
  pub taken : slot_at tree.slots p ≡ Free → ⊥
  pub unreached : IsUnreached tree.slots tree.levels p

-- The identifier is free. All other pages are as before, and so are the levels and what the tree holds.
pub record HasFreed (old new : TreeView) (p : ℕ) : Type 0 where
  pub freed : IsFreed old.slots new.slots p
  pub levels : new.levels ≡ old.levels
  pub contents : (stamp : ℕ) → contents_at new stamp ≡ contents_at old stamp
  pub heads : new.heads ≡ old.heads
  pub root : new.root ≡ old.root
  pub records : new.records ≡ old.records
  pub next : new.next ≡ old.next
  pub staged : new.staged ≡ None

-- the last identifier that has a mapping word isn't free
abbrev pub EndsTaken : TreeView → Type 0
EndsTaken tree = (p : ℕ) → suc p ≡ length tree.heads → slot_at tree.slots p ≡ Free → ⊥

-- The free identifiers at the end have no mapping words any more. All pages are as before, and so are the levels and what the
-- tree holds.
pub record IsTrimmed (old new : TreeView) : Type 0 where
  pub pages : (p : ℕ) → slot_at new.slots p ≡ slot_at old.slots p
  pub heads : new.heads ≡ take (length new.heads) old.heads
  pub taken : EndsTaken new
  pub levels : new.levels ≡ old.levels
  pub contents : (stamp : ℕ) → contents_at new stamp ≡ contents_at old stamp
  pub root : new.root ≡ old.root
  pub records : new.records ≡ old.records
  pub next : new.next ≡ old.next
  pub staged : new.staged ≡ None
