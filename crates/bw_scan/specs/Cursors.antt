-- Scans that read one leaf at a time.
use Rattle.std.specs.Prelude.{◌≡◌, ℕ, false, List, take, Option, Some, None}
use Rattle.std.specs.FinMap.Entries.{where_key}
use Rattle.std.specs.Borrow.{Bor}
use Rattle.std.specs.Ordering.{is_lt}
use Rattle.bw_key.specs.Order.{KeyBytes, key_cmp}
use Rattle.bw_model.specs.Contents.{pairs_of_range}
use Rattle.bw_model.specs.Model.{key_of}
use Rattle.bw_model.specs.Values.{Pair}
use Rattle.bw_model.specs.declared.operations.Op.{Op}
use Rattle.bw_model.specs.declared.operations.Op.TheVariants.{Scan}
use Rattle.bw_level.specs.Levels.{IsHome}
use Rattle.bw_level.specs.Slots.{slot_at}
use Rattle.bw_scan.specs.declared.scans.ReadLeaf.{ReadLeaf}
use Rattle.bw_scan.specs.Replaying.{EndsBefore, HasNoPairs, IsReadLeaf, filled, pairs_on}
use Rattle.bw_look.specs.View.{TreeView, contents_at, first_pairs}

-- a scan from a key has come to another one, and has found what of all its pairs lies below that
pub record Scanning (all found : List Pair) (from at : KeyBytes) : Type 0 where
  pub begins : is_lt (key_cmp at from) ≡ false
  pub so_far : found ≡ where_key key_cmp (λ k. is_lt (key_cmp k at)) all

-- what was read of a range when a scan comes to a key: the first pairs of those below it
pub record HasRead (all : List Pair) (most : ℕ) (read : List Pair) (from at : KeyBytes) : Type 0 where
  pub whole : List Pair
  pub scanning : Scanning all whole from at
  pub front : read ≡ take most whole

-- a scan has read these pairs, and goes on at a key, or has all
abbrev pub IsReadUpto : TreeView → ℕ → ℕ → KeyBytes → Option KeyBytes → List Pair → Option KeyBytes → Type 0
IsReadUpto tree stamp most from to read None = read ≡ first_pairs tree from to most stamp
IsReadUpto tree stamp most from to read (Some at) =
    HasRead (pairs_of_range (contents_at tree stamp) from to) most read from at

-- a page with what was read of it: the leaf of a key
pub record IsLeafOf (tree : TreeView) (key : KeyBytes) (leaf : ℕ × ReadLeaf) : Type 0 where
  pub home : IsHome tree.slots tree.levels key leaf.0
  pub read : IsReadLeaf (slot_at tree.slots leaf.0) leaf.1

-- the pairs of a range that lie on the leaf of its first key were added, until there were so many, and here the leaf ends
pub record IsLeafRead (tree : TreeView) (stamp most : ℕ) (at : KeyBytes) (to : Option KeyBytes)
    (old new : List Pair) (end : Option (Bor KeyBytes)) : Type 0 where
  pub page : ℕ
  pub home : IsHome tree.slots tree.levels at page
  pub pairs : new ≡ filled most old (pairs_on tree stamp at to page)
  pub ends : EndsBefore (slot_at tree.slots page) to end

-- what contracts see of a scan that is under way: the tree, the operation, and its stamp
pub record CursorView : Type 0 where
  pub tree : TreeView
  pub op : Op
  pub stamp : ℕ

-- a scan forth has read these pairs, and goes on at this key; of one back nothing is said
abbrev pub HasReadOf : TreeView → ℕ → Op → Option KeyBytes → List Pair → Type 0
HasReadOf tree stamp (Scan from to most) at read = IsReadUpto tree stamp most from to read at
HasReadOf tree stamp op at read = Unit {0}

-- the same of an operation without a key
pub record IsUnderWay (scan : CursorView) (at : Option KeyBytes) (read : List Pair) : Type 0 where
  pub keyless : key_of scan.op ≡ None
  pub has_read : HasReadOf scan.tree scan.stamp scan.op at read

-- an operation reads leaf by leaf from this key on, or needs to read nothing so
abbrev pub BeginsAt : Op → Option KeyBytes → Type 0
BeginsAt (Scan from to most) None = HasNoPairs from to most
BeginsAt (Scan from to most) (Some at) = at ≡ from
BeginsAt op at = Unit {0}
