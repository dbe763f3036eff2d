-- One page that is due is looked at: it is consolidated where it has records, and split or merged by its number of entries.
use Rattle.std.specs.Prelude.{◌≡◌, ℕ, Bool, true, false, ◌+◌, ◌*◌, ◌-◌, ◌≤◌, ◌<◌, ◌^◌, ◌⊎◌, ◌/◌, List, [], ◌∷◌, ◌++◌, None, length, drop, slice_index}
use Rattle.std.specs.List.{Contains}
use Rattle.bw_level.specs.Levels.{row}
use Rattle.bw_level.specs.Reading.{writes_over}
use Rattle.bw_level.specs.Slots.{Slot, slot_at}
use Rattle.bw_level.specs.Splits.{slot_entries}
use Rattle.bw_look.specs.PageStates.{IsLeft}
use Rattle.bw_look.specs.Routing.{IsInLevel}
use Rattle.bw_look.specs.Shapes.{pairs_on}
use Rattle.bw_tree.specs.TreeSplits.{IsSplit, IsSplittable}
use Rattle.bw_look.specs.View.{TreeView}
use Rattle.bw_steps.specs.Releasing.{taken_count}
use Rattle.bw_shape.specs.Limits.{LimitsView, AreWithinBut}
use Rattle.bw_shape.specs.Sweeps.{HoldsSame}
use Rattle.bw_shape.specs.Tidying.{DueView}

-- this page is the next one
abbrev pub IsNext : List ℕ → ℕ → Type 0
IsNext pages p = (rest : List ℕ) × (pages ≡ rest ++ p ∷ [])

-- this page is the next one, and there are more than so many
abbrev pub IsNextBefore : List ℕ → ℕ → ℕ → Type 0
IsNextBefore pages others p = IsNext pages p × (others < length pages)

-- a page has more writes over its base page than a leaf may have, or more entries under them than a page may have
abbrev pub IsOver : LimitsView → Slot → Type 0
IsOver limits slot = (limits.chain_max < length (writes_over slot)) ⊎ (limits.page_max < slot_entries slot)

-- the page has fewer entries than a page is to have
abbrev pub IsSmall : LimitsView → Slot → Type 0
IsSmall limits slot = slot_entries slot < limits.page_min

-- if the page is a leaf, it has no more writes than it may have
abbrev pub HasShortChain : LimitsView → TreeView → ℕ → Type 0
HasShortChain limits tree p =
    Contains (row tree.levels 0) p → length (writes_over (slot_at tree.slots p)) ≤ limits.chain_max

-- as of the next stamp, the page has no more entries than it may have
abbrev pub HasRoomOn : LimitsView → TreeView → ℕ → Type 0
HasRoomOn limits tree p = pairs_on tree (slot_at tree.slots p) ≤ limits.page_max

-- two pages have no more entries together, under the writes over them, than one page may have
abbrev pub AreFewTogether : LimitsView → TreeView → ℕ → ℕ → Type 0
AreFewTogether limits tree p q =
    slot_entries (slot_at tree.slots q) + slot_entries (slot_at tree.slots p) ≤ limits.page_max

-- so have a page and its left neighbour, if it has one
abbrev pub FitsLeft : LimitsView → TreeView → ℕ → Type 0
FitsLeft limits tree p = (q : ℕ) → IsLeft tree p q → AreFewTogether limits tree p q

-- a page has more entries, under the writes over it, than it may have
abbrev pub HasMany : LimitsView → TreeView → ℕ → Type 0
HasMany limits tree p = limits.page_max < slot_entries (slot_at tree.slots p)

-- whichever pages are due, each leaf is within these limits or due, if that was so
abbrev pub KeepsWithinAt : LimitsView → TreeView → TreeView → Type 0
KeepsWithinAt limits old new = (due : List ℕ) → AreWithinBut limits old due → AreWithinBut limits new due

-- the next page is due no more, and nothing is left to be finished; or the tree is the same, with the same pages due
abbrev pub HasAbsorbed : TreeView → TreeView → DueView → DueView → Bool → Type 0
HasAbsorbed old new due due' true = (length due'.pages < length due.pages) × (due'.unfinished ≡ None)
HasAbsorbed old new due due' false = (new ≡ old) × (due'.pages ≡ due.pages)

-- what is left to do among the halves of a page: a split takes an identifier, and is worth three pages that are looked at
abbrev pub work_left : TreeView → DueView → ℕ
work_left tree due = 3 * (2 ^ 32 - taken_count tree.slots) + length due.pages

-- the page has parted in two, and the parts are the next ones, the left one first
pub record IsSplitNext (old new : TreeView) (due due' : List ℕ) (p keep : ℕ) : Type 0 where
  pub right : ℕ
  pub split : IsSplit old new p keep right
  pub rest : List ℕ
  pub was : due ≡ rest ++ p ∷ []
  pub is : due' ≡ rest ++ right ∷ p ∷ []

-- the next page has parted in two, and no tree has taken more identifiers than there are
pub record IsHalved (old new : TreeView) (due due' : DueView) (p keep : ℕ) : Type 0 where
  pub able : IsSplittable old p keep
  pub split : IsSplitNext old new due.pages due'.pages p keep
  pub few : taken_count new.slots ≤ 2 ^ 32

-- half of a page's entries, rounded down
abbrev pub half_of : TreeView → ℕ → ℕ
half_of tree p = slot_entries (slot_at tree.slots p) / 2

-- the next page was looked at: it was split and keeps its first half, or nothing has changed and it is due no more
abbrev pub IsPart : TreeView → TreeView → DueView → DueView → ℕ → Bool → Type 0
IsPart old new due due' p true = IsHalved old new due due' p (half_of old p)
IsPart old new due due' p false = (new ≡ old) × (due.pages ≡ due'.pages ++ p ∷ [])

-- the pages that are to be looked at before so many others stand on this level
abbrev pub StandBefore : TreeView → ℕ → ℕ → List ℕ → Type 0
StandBefore tree level others pages = (p : ℕ) → Contains (drop others pages) p → IsInLevel tree p level

-- The next page, which stands on this level, was looked at: pages of the level are due in its place, which may be none,
-- and less is left to do. A page of a level still stands on it.
pub record HasPassed (old new : TreeView) (due due' : DueView) (p level : ℕ) : Type 0 where
  pub rest : List ℕ
  pub was : due.pages ≡ rest ++ p ∷ []
  pub halves : List ℕ
  pub is : due'.pages ≡ rest ++ halves
  pub stand : (q : ℕ) → Contains halves q → IsInLevel new q level
  pub still : (q n : ℕ) → IsInLevel old q n → IsInLevel new q n
  pub less : work_left new due' < work_left old due

-- the page has no record; all other pages are as before
pub record IsBare (old new : TreeView) (p : ℕ) : Type 0 where
  pub same : HoldsSame old new
  pub plain : slice_index new.heads p < 2 ^ 32
  pub others : (q : ℕ) → (q ≡ p → ⊥) → slot_at new.slots q ≡ slot_at old.slots q
