-- The leaf before an end of keys: the one whose range has the keys right below it.
use Rattle.std.specs.Prelude.{◌≡◌, ℕ, T, List, [], Option, Some, None}
use Rattle.std.specs.List.{Contains}
use Rattle.bw_key.specs.Order.{KeyBytes}
use Rattle.bw_model.specs.Contents.{is_below_end}
use Rattle.bw_page.specs.declared.pages.RemovedPage.{RemovedPage}
use Rattle.bw_level.specs.Slots.{Slot, PageState, Free, Gone, Live, slot_at}
use Rattle.bw_level.specs.Levels.{row}
use Rattle.bw_level.specs.Scans.{Reaches}

-- where a page's range begins
abbrev pub low_of : Slot → KeyBytes
low_of (Live s) = s.low
low_of (Gone l) = []
low_of Free = []

-- the same, where there is a page
abbrev pub low_at : Slot → Option KeyBytes
low_at (Live s) = Some s.low
low_at (Gone l) = None
low_at Free = None

-- what is left of a page that was removed
abbrev pub removed_at : Slot → Option RemovedPage
removed_at (Live s) = None
removed_at (Gone l) = Some l
removed_at Free = None

-- a leaf that begins below the end and reaches it
pub record IsBefore (slots : List Slot) (levels : List (List ℕ)) (end : Option KeyBytes) (p : ℕ) : Type 0 where
  pub in_level : Contains (row levels 0) p
  pub state : PageState
  pub is : slot_at slots p ≡ Live state
  pub starts : T (is_below_end end state.low)
  pub reaches : Reaches state.high end
