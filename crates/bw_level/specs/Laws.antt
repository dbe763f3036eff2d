-- What holds of levels, and of ways.
use Rattle.std.specs.Prelude.{◌≡◌, ℕ, ◌<◌, List, length, Option}
use Rattle.std.specs.List.{Contains}
use Rattle.bw_key.specs.Order.{KeyBytes}
use Rattle.bw_delta.specs.History.{HasDistinctStamps}
use Rattle.bw_level.specs.Walk.{Leads}
use Rattle.bw_level.specs.Slots.{Slot, slot_at}
use Rattle.bw_level.specs.Levels.{AreLevels, IsHome, IsHomeAt, levels_under, row}
use Rattle.bw_level.specs.Reading.{contents_in, row_writes, value_in}
use Rattle.bw_level.specs.Children.{FitsChild, HasChild, HasDroppedChild, MayDropChild}
use Rattle.bw_level.specs.Entries.{AreExact}
use Rattle.bw_level.specs.Freeing.{IsAside, IsUnreached, IsFreed}
use Rattle.bw_level.specs.Merges.{IsMerged, IsNoFirstChild, level_merged}
use Rattle.bw_level.specs.Roots.{IsGrown, IsRootRemoved, levels_grown, levels_lowered}
use Rattle.bw_level.specs.Searches.{AllStand}
use Rattle.bw_level.specs.Splits.{HasNoRemovedAt, IsParted, level_parted}
use Rattle.bw_level.specs.KeptLevels.{AreAlike, KeepsLevels}

-- a way along a step is one only
abbrev pub WayIsOne : Type 0
WayIsOne =
    (next : ℕ → Option ℕ) (p : ℕ) (xs ys : List ℕ) (e f : ℕ) → Leads next p xs e → Leads next p ys f →
    (xs ≡ ys) × (e ≡ f)

-- lists of pages that are the levels under a root are those that are found from it
abbrev pub LevelsAreFound : Type 0
LevelsAreFound =
    (slots : List Slot) (root : ℕ) (levels : List (List ℕ)) → AreLevels slots root levels →
    levels_under slots root ≡ levels

-- in lawful levels a key has one home
abbrev pub HomeIsOne : Type 0
HomeIsOne =
    (slots : List Slot) (root : ℕ) (levels : List (List ℕ)) (key : KeyBytes) (p q : ℕ) →
    AreLevels slots root levels → IsHome slots levels key p → IsHome slots levels key q → p ≡ q

-- in lawful levels a key has a home on each level
abbrev pub HomeIsThere : Type 0
HomeIsThere =
    (slots : List Slot) (root : ℕ) (levels : List (List ℕ)) → AreLevels slots root levels →
    (level : ℕ) (key : KeyBytes) → level < length levels → (p : ℕ) × IsHomeAt slots levels key level p

-- a change that keeps levels makes lawful ones of lawful ones
abbrev pub LevelsAreKept : Type 0
LevelsAreKept =
    (old new : List Slot) (root : ℕ) (levels levels' : List (List ℕ)) → AreLevels old root levels →
    KeepsLevels old new levels levels' → AreLevels new root levels'

-- lawful levels stay so under a root where all pages are alike
abbrev pub LevelsAreAlike : Type 0
LevelsAreAlike =
    (old new : List Slot) (root : ℕ) (levels : List (List ℕ)) →
    ((p : ℕ) → AreAlike (slot_at old p) (slot_at new p)) → AreLevels old root levels → AreLevels new root levels

-- trees hold the same, each as of its stamp, where each key has the same value at its home in both
abbrev pub ContentsAreKept : Type 0
ContentsAreKept =
    (old new : List Slot) (root root' : ℕ) (levels levels' : List (List ℕ)) (n m : ℕ) →
    AreLevels old root levels → AreLevels new root' levels' →
    HasDistinctStamps (row_writes old (row levels 0)) → HasDistinctStamps (row_writes new (row levels' 0)) →
    ((key : KeyBytes) (p q : ℕ) → IsHome old levels key p → IsHome new levels' key q →
    value_in (slot_at new q) key m ≡ value_in (slot_at old p) key n) →
    contents_in new levels' m ≡ contents_in old levels n

-- New levels are lawful under a root, with exact index entries where the old ones had them, and hold what these held. Each
-- page stands on one of them where each stood on a level.
pub record KeepsAll (old new : List Slot) (root : ℕ) (levels levels' : List (List ℕ)) : Type 0 where
  pub lawful : AreLevels new root levels'
  pub exact : AreExact old levels → AreExact new levels'
  pub stand : AllStand old levels → AllStand new levels'
  pub writes : row_writes new (row levels' 0) ≡ row_writes old (row levels 0)
  pub contents : HasDistinctStamps (row_writes old (row levels 0)) → (stamp : ℕ) →
      contents_in new levels' stamp ≡ contents_in old levels stamp

-- where a page of a level parts, the levels are lawful with its new right neighbour, and hold the same
abbrev pub PartsAreKept : Type 0
PartsAreKept =
    (old new : List Slot) (root : ℕ) (levels : List (List ℕ)) (level p q keep : ℕ) → AreLevels old root levels →
    level < length levels → Contains (row levels level) p → HasNoRemovedAt old p keep → IsParted old new p q keep →
    KeepsAll old new root levels (level_parted levels level p q)

-- where a page of a level names one more page of the level below, the levels stay
abbrev pub ChildIsKept : Type 0
ChildIsKept =
    (old new : List Slot) (root : ℕ) (levels : List (List ℕ)) (parent : ℕ) (sep : KeyBytes) (child : ℕ) →
    AreLevels old root levels → FitsChild old levels parent sep child → HasChild old new parent sep child →
    KeepsAll old new root levels levels

-- where the root grows, the levels are lawful with one more above them, and hold the same
abbrev pub LevelsAreGrown : Type 0
LevelsAreGrown =
    (old new : List Slot) (root : ℕ) (levels : List (List ℕ)) (t : ℕ) → AreLevels old root levels →
    IsGrown old new root t → KeepsAll old new t levels (levels_grown levels t)

-- where a page of a level is absorbed by its left neighbour, the levels are lawful without it, and hold the same
abbrev pub MergesAreKept : Type 0
MergesAreKept =
    (old new : List Slot) (root : ℕ) (levels : List (List ℕ)) (level p q : ℕ) → AreLevels old root levels →
    level < length levels → Contains (row levels level) p → IsNoFirstChild old levels q → IsMerged old new p q →
    KeepsAll old new root levels (level_merged levels level q)

-- where a page no longer names a child, the levels stay
abbrev pub DroppedChildIsKept : Type 0
DroppedChildIsKept =
    (old new : List Slot) (root : ℕ) (levels : List (List ℕ)) (parent : ℕ) (sep : KeyBytes) →
    AreLevels old root levels → MayDropChild old levels parent sep → HasDroppedChild old new parent sep →
    KeepsAll old new root levels levels

-- where the only child takes the place of the root, which is removed, the levels are lawful without the highest one, and
-- hold the same; the old root stands on none of them, and no page of a level names it
abbrev pub LevelsAreLowered : Type 0
LevelsAreLowered =
    (old new : List Slot) (root : ℕ) (levels : List (List ℕ)) (child : ℕ) → AreLevels old root levels →
    IsRootRemoved old new root child →
    KeepsAll old new child levels (levels_lowered levels) × IsAside new (levels_lowered levels) root

-- where the identifier of a page to which nothing leads is given back, the levels stay
abbrev pub FreedPageIsKept : Type 0
FreedPageIsKept =
    (old new : List Slot) (root : ℕ) (levels : List (List ℕ)) (p : ℕ) → AreLevels old root levels →
    IsUnreached old levels p → IsFreed old new p → KeepsAll old new root levels levels
