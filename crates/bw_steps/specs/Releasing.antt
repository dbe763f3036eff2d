-- What giving identifiers back does, and where it isn't needed.
use Rattle.std.specs.Prelude.{◌≡◌, ℕ, ◌+◌, ◌⊎◌, List, [], ◌∷◌, Some, None}
use Rattle.bw_level.specs.Freeing.{IsUnreached}
use Rattle.bw_level.specs.Slots.{Slot, Free, Gone, Live, side_of, slot_at}
use Rattle.bw_tree.specs.TreeFreeing.{HasFreed, MayBeFreed}
use Rattle.bw_look.specs.View.{TreeView, contents_at}
use Rattle.bw_steps.specs.declared.steps.Did.{Did}
use Rattle.bw_steps.specs.declared.steps.Did.TheVariants.{Done, NotNeeded}

abbrev pub IsReleaseStep : TreeView → TreeView → ℕ → Did → Type 0
IsReleaseStep old new p Done = MayBeFreed old p × HasFreed old new p
IsReleaseStep old new p NotNeeded = (new ≡ old) × (MayBeFreed old p → ⊥)

-- no page's side link names this one
abbrev pub HasNoSideLink : TreeView → ℕ → Type 0
HasNoSideLink tree p = (q : ℕ) → side_of tree.slots q ≡ Some p → ⊥

-- no identifier is free that wasn't, but of pages that stand on no level and to which nothing leads
abbrev pub FreesUnreached : TreeView → TreeView → Type 0
FreesUnreached old new =
    (p : ℕ) → slot_at new.slots p ≡ Free → (slot_at old.slots p ≡ Free) ⊎ IsUnreached new.slots new.levels p

-- each page that stands on no level, and whose identifier isn't free, is one to which something leads
abbrev pub HasNoneToFree : TreeView → Type 0
HasNoneToFree tree = (p : ℕ) → MayBeFreed tree p → ⊥

-- Identifiers were given back of pages to which nothing leads. All other pages are as before, and so is all else.
pub record AreFreed (old new : TreeView) : Type 0 where
  pub freed : FreesUnreached old new
  pub others : (p : ℕ) → (slot_at new.slots p ≡ Free → ⊥) → slot_at new.slots p ≡ slot_at old.slots p
  pub levels : new.levels ≡ old.levels
  pub contents : (stamp : ℕ) → contents_at new stamp ≡ contents_at old stamp
  pub heads : new.heads ≡ old.heads
  pub root : new.root ≡ old.root
  pub records : new.records ≡ old.records
  pub next : new.next ≡ old.next
  pub staged : new.staged ≡ None

-- of the identifiers that may be given back, none is this page's, and each might be before
abbrev pub IsLeftOut : TreeView → TreeView → ℕ → Type 0
IsLeftOut old new page = (p : ℕ) → MayBeFreed new p → (p ≡ page → ⊥) × MayBeFreed old p

-- The same, from page to page: of those that may be given back, `next` alone is looked at still.
abbrev pub IsLeftToFree : TreeView → TreeView → ℕ → ℕ → Type 0
IsLeftToFree old new page next = (p : ℕ) → MayBeFreed new p → (next ≡ p) ⊎ ((p ≡ page → ⊥) × MayBeFreed old p)

-- how many identifiers aren't free
abbrev pub one_if_taken : Slot → ℕ
one_if_taken Free = 0
one_if_taken (Gone l) = 1
one_if_taken (Live s) = 1

abbrev pub taken_count : List Slot → ℕ
taken_count [] = 0
taken_count (slot ∷ slots) = one_if_taken slot + taken_count slots
