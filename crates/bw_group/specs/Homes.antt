-- The homes of a batch: the pages of its keys.
use Rattle.std.specs.Prelude.{◌≡◌, ℕ, true, List, [], ◌∷◌, length, Some, slice_get, slice_index}
use Rattle.std.specs.List.{AllByRecursion, slice_set}
use Rattle.std.specs.Ordering.{is_lt}
use Rattle.bw_key.specs.Order.{KeyBytes, key_cmp}
use Rattle.bw_model.specs.declared.operations.Op.{Op}
use Rattle.bw_tree.specs.Before.{low_of}
use Rattle.bw_tree.specs.Levels.{IsOneHome}
use Rattle.bw_tree.specs.Slots.{Slot, slot_at}
use Rattle.bw_look.specs.View.{TreeView}
use Rattle.bw_tree.specs.PageWords.{ArePages}
use Rattle.bw_group.specs.Points.{Entry, IsEntryOf}

-- pages, and for each operation of a batch the number of its page among them
pub record HomesView : Type 0 where
  pub pages : List ℕ
  pub numbers : List ℕ

-- of these pages the one with this number is the key's home
pub record IsHomeNumber (tree : TreeView) (pages : List ℕ) (key : KeyBytes) (number : ℕ) : Type 0 where
  pub page : ℕ
  pub is : slice_get pages number ≡ Some page
  pub one : IsOneHome tree.slots tree.levels key page

-- the number of the key's home is listed at this place
pub record HasHome (tree : TreeView) (homes : HomesView) (place : ℕ) (key : KeyBytes) : Type 0 where
  pub number : ℕ
  pub at : slice_get homes.numbers place ≡ Some number
  pub home : IsHomeNumber tree homes.pages key number

-- this page is listed for the operation at a place
pub record IsPageAt (homes : HomesView) (page place : ℕ) : Type 0 where
  pub number : ℕ
  pub at : slice_get homes.numbers place ≡ Some number
  pub is : slice_get homes.pages number ≡ Some page

-- the number there
abbrev pub number_of : HomesView → ℕ → ℕ
number_of homes place = slice_index homes.numbers place

-- a page is listed there
abbrev pub HasPageAt : HomesView → ℕ → Type 0
HasPageAt homes place = (page : ℕ) × IsPageAt homes page place

-- a key of the batch is at home on the page
pub record IsTouched (tree : TreeView) (ops : List Op) (page : ℕ) : Type 0 where
  pub place : ℕ
  pub key : KeyBytes
  pub entry : IsEntryOf ops (key, place)
  pub one : IsOneHome tree.slots tree.levels key page

-- the first page begins below the second
abbrev pub BeginsBelow : List Slot → ℕ → ℕ → Type 0
BeginsBelow slots p q = is_lt (key_cmp (low_of (slot_at slots p)) (low_of (slot_at slots q))) ≡ true

-- each page begins below those behind it
abbrev pub AreInKeyOrder : List Slot → List ℕ → Type 0
AreInKeyOrder slots [] = Unit {0}
AreInKeyOrder slots (p ∷ ps) = AllByRecursion (BeginsBelow slots p) ps × AreInKeyOrder slots ps

-- The pages on which keys of the batch are at home, in the order of the keys and none of them twice, and for each operation
-- that has a key the number of the key's home.
pub record AreHomes (tree : TreeView) (ops : List Op) (homes : HomesView) : Type 0 where
  pub pages : ArePages tree homes.pages
  pub order : AreInKeyOrder tree.slots homes.pages
  pub touched : AllByRecursion (IsTouched tree ops) homes.pages
  pub count : length homes.numbers ≡ length ops
  pub each : (place : ℕ) (key : KeyBytes) → IsEntryOf ops (key, place) → HasHome tree homes place key

-- the numbers with this one at the place of each entry
abbrev pub with_number : List ℕ → List Entry → ℕ → List ℕ
with_number numbers [] n = numbers
with_number numbers (e ∷ es) n = with_number (slice_set numbers e.1 n) es n
