-- Tidying: pages that are over a limit are consolidated and split, and pages with few entries are merged.
use Rattle.std.specs.Prelude.{◌≡◌, ℕ, ◌≤◌, ◌⊎◌, Bool, true, false, List, [], Option, None, drop, reverse}
use Rattle.std.specs.List.{Contains, concat}
use Rattle.bw_level.specs.Levels.{row}
use Rattle.bw_look.specs.View.{TreeView, contents_at}
use Rattle.bw_look.specs.RemovedPages.{IsNamerOfRemoved}
use Rattle.bw_look.specs.Unnamed.{HasNoUnnamed}
use Rattle.bw_steps.specs.Naming.{AreFinished}
use Rattle.bw_steps.specs.Releasing.{IsLeftToFree}
use Rattle.bw_steps.specs.Steps.{IsRootStep}
use Rattle.bw_steps.specs.declared.steps.Did.{Did}
use Rattle.bw_shape.specs.LeafRanges.{leaf_ranges}
use Rattle.bw_shape.specs.Limits.{LimitsView, AreWithinBut}

-- The pages that are to be looked at, the next one last; the inner pages to look at behind those, the first one first;
-- and the page whose right neighbours the level above may not name yet, or that it may still name though it was removed, or
-- whose identifier may be left to be given back, if there is one. Leaves that are begun are among the pages, were consolidated
-- and may be left to be merged. Later inner pages and marked leaves are to be looked at the next time, and so is the first leaf
-- under a page that is to be merged, once it was. Of a tree that was given splits and merges may be unfinished that no tidying
-- has begun.
pub record DueView : Type 0 where
  pub pages : List ℕ
  pub above : List ℕ
  pub later : List ℕ
  pub begun : List ℕ
  pub marked : List ℕ
  pub moving : Option ℕ
  pub unfinished : Option ℕ
  pub given : Bool

-- nothing is to be looked at
abbrev pub no_due : DueView
no_due = record {
  pages = [];
  above = [];
  later = [];
  begun = [];
  marked = [];
  moving = None;
  unfinished = None;
  given = false;
}

-- The tree holds what it held as of its next stamp, which is the same, and nothing is staged. It has no fewer records; where it
-- has no more, its leaves are the same, with the same ranges: each split puts a record, and each merge two.
pub record HoldsAll (old new : TreeView) : Type 0 where
  pub contents : contents_at new new.next ≡ contents_at old old.next
  pub next : new.next ≡ old.next
  pub records : old.records ≤ new.records
  pub leaves : new.records ≡ old.records → leaf_ranges new ≡ leaf_ranges old
  pub staged : new.staged ≡ None

-- the pages of two lists, and no others
pub record HasBoth (pages more both : List ℕ) : Type 0 where
  pub left : (p : ℕ) → Contains pages p → Contains both p
  pub right : (p : ℕ) → Contains more p → Contains both p
  pub only : (p : ℕ) → Contains both p → Contains pages p ⊎ Contains more p

-- these pages are among those
abbrev pub AreAmong : List ℕ → List ℕ → Type 0
AreAmong few pages = (p : ℕ) → Contains few p → Contains pages p

-- whatever the limits are, each leaf is within them or to be looked at, if that was so
abbrev pub KeepsWithin : TreeView → TreeView → List ℕ → List ℕ → Type 0
KeepsWithin old new due due' = (limits : LimitsView) → AreWithinBut limits old due → AreWithinBut limits new due'

-- no page is to be looked at
abbrev pub HasNoPage : DueView → Type 0
HasNoPage due = (due.pages ≡ []) × (due.above ≡ [])

-- nor are the splits or the merge of a page left to be finished, or its identifier to be given back
abbrev pub HasNoneDue : DueView → Type 0
HasNoneDue due = HasNoPage due × (due.unfinished ≡ None)

-- the leaves are to be looked at in the order of keys, and behind them the inner pages, the lowest level first
abbrev pub AreAllPages : TreeView → DueView → Type 0
AreAllPages tree due =
    due ≡ record no_due { pages = reverse (row tree.levels 0); above = concat (drop 1 tree.levels) }

-- the same, of a tree that was given
abbrev pub AreGivenPages : TreeView → DueView → Type 0
AreGivenPages tree due =
    due ≡ record no_due { pages = reverse (row tree.levels 0); above = concat (drop 1 tree.levels); given = true }

-- The splits of p are finished: its right neighbours have their index entries on a page that is due, or none of them lacked
-- one, and a root that was split has a root above it.
abbrev pub HasFinished : TreeView → TreeView → List ℕ → ℕ → Type 0
HasFinished old new due p =
    ((parent : ℕ) × AreFinished old new p parent × Contains due parent)
    ⊎ (HasNoUnnamed old p × ((did : Did) × IsRootStep old new did))

-- Where the merge of a page was to be finished, `next` is looked at still: it is that page, if a page above still names it,
-- and of the identifiers that may be given back there is none but this one that might not be before.
pub record IsLeftToFinish (old new : TreeView) (page next : ℕ) : Type 0 where
  pub named : (parent : ℕ) → IsNamerOfRemoved new page parent → next ≡ page
  pub taken : IsLeftToFree old new page next
