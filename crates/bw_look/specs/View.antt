-- What contracts see of a tree.
use Rattle.std.specs.Prelude.{◌≡◌, ℕ, Bool, List, [], ◌++◌, Option, Some, None}
use Rattle.std.specs.FinMap.{find, from_entries, get}
use Rattle.std.specs.List.{Contains}
use Rattle.bw_key.specs.Order.{KeyBytes, key_cmp}
use Rattle.bw_model.specs.Contents.{Contents, first_of_range, last_of_range}
use Rattle.bw_model.specs.Values.{ValueBytes}
use Rattle.bw_delta.specs.Writes.{WriteView}
use Rattle.bw_delta.specs.ContentsAsOf.{contents_as_of}
use Rattle.bw_delta.specs.History.{HasDistinctStamps}
use Rattle.bw_level.specs.Reading.{base_of, contents_in, value_in, writes_over, row_pairs, row_writes}
use Rattle.bw_level.specs.Slots.{Slot, slot_at}
use Rattle.bw_level.specs.Levels.{IsHome, row}

-- A staged batch: what stood before it, how many stamps it takes, its writes, and whether they stand in the chains.
pub record StageView : Type 0 where
  pub slots : List Slot
  pub levels : List (List ℕ)
  pub heads : List ℕ
  pub records : ℕ
  pub ops : ℕ
  pub writes : List WriteView
  pub adopted : Bool

-- The present state of each page, by its identifier; the root; the pages of each level, the lowest first; the mapping
-- words; how many records there are; the stamp of the next operation; and the batch that is staged, if one is.
pub record TreeView : Type 0 where
  pub slots : List Slot
  pub root : ℕ
  pub levels : List (List ℕ)
  pub heads : List ℕ
  pub records : ℕ
  pub next : ℕ
  pub staged : Option StageView

-- what a tree holds as of a stamp: the writes over all its leaves, in the order of their stamps, over the pairs under
-- them
abbrev pub contents_at : TreeView → ℕ → Contents ValueBytes
contents_at tree stamp = contents_in tree.slots tree.levels stamp

-- the first pairs of a range of keys as of a stamp, and the last ones
abbrev pub first_pairs : TreeView → KeyBytes → Option KeyBytes → ℕ → ℕ → List (KeyBytes × ValueBytes)
first_pairs tree from to most stamp = first_of_range (contents_at tree stamp) from to most

abbrev pub last_pairs : TreeView → KeyBytes → Option KeyBytes → ℕ → ℕ → List (KeyBytes × ValueBytes)
last_pairs tree from to most stamp = last_of_range (contents_at tree stamp) from to most

abbrev pub staged_writes : Option StageView → List WriteView
staged_writes None = []
staged_writes (Some stage) = stage.writes

-- The same with the staged writes among them, for a batch that is staged and not adopted: once it is adopted, the leaves
-- have these writes too, and they would be listed twice.
abbrev pub contents_with : TreeView → ℕ → Contents ValueBytes
contents_with tree stamp =
    let leaves = row tree.levels 0 in
    let writes = staged_writes tree.staged ++ row_writes tree.slots leaves in
    contents_as_of (from_entries (row_pairs tree.slots leaves)) writes stamp

-- a key has one home
abbrev pub HomeIsOneIn : TreeView → Type 0
HomeIsOneIn tree =
    (key : KeyBytes) (p q : ℕ) → IsHome tree.slots tree.levels key p → IsHome tree.slots tree.levels key q → q ≡ p

-- the tree holds at a key what the key's home holds there
abbrev pub HomesHoldAll : TreeView → Type 0
HomesHoldAll tree =
    (key : KeyBytes) (p stamp : ℕ) → IsHome tree.slots tree.levels key p →
    get (contents_at tree stamp) key ≡ value_in (slot_at tree.slots p) key stamp

-- no two writes over a leaf have one stamp
abbrev pub LeavesHaveDistinctStamps : TreeView → Type 0
LeavesHaveDistinctStamps tree =
    (p : ℕ) → Contains (row tree.levels 0) p → HasDistinctStamps (writes_over (slot_at tree.slots p))

-- these pairs are those under the writes of a leaf, at each key that is at home there
abbrev pub ArePairsUnder : TreeView → ℕ → List (KeyBytes × ValueBytes) → Type 0
ArePairsUnder tree p pairs =
    (key : KeyBytes) → IsHome tree.slots tree.levels key p →
    find key_cmp key pairs ≡ base_of (slot_at tree.slots p) key
