-- What scans have read that read one leaf at a time.
use Rattle.std.proofs.Common.{◌≡◌, ℕ, ◌≤◌, List, [], length, Option, Some, None, sym, subst, ◌∙◌}
use Rattle.std.specs.Borrow.{Bor}
use Rattle.std.specs.Option.{option_copied}
use Rattle.bw_key.specs.Order.{KeyBytes}
use Rattle.bw_model.specs.Contents.{pairs_of_range}
use Rattle.bw_model.specs.Model.{key_of}
use Rattle.bw_model.specs.Values.{Pair}
use Rattle.bw_model.specs.declared.operations.Op.{Op}
use Rattle.bw_model.specs.declared.operations.Op.TheVariants.{Get, Insert, Upsert, Update, Delete, SwapIf, Scan, Rscan}
use Rattle.bw_delta.specs.History.{HasDistinctStamps}
use Rattle.bw_level.specs.Levels.{AreLevels, row}
use Rattle.bw_level.specs.Reading.{row_writes}
use Rattle.bw_level.specs.Scans.{EndsBelow, high_of}
use Rattle.bw_level.specs.Slots.{Slot}
use Rattle.bw_scan.specs.Cursors.{BeginsAt, HasRead, HasReadOf, IsLeafRead, IsReadUpto, IsUnderWay}
use Rattle.bw_scan.specs.Replaying.{EndsBefore}
use Rattle.bw_look.specs.View.{TreeView, contents_at}
use Rattle.bw_scan.proofs.ReplayLemmas.{begins, ends_read, is_enough_read, next_read}

-- a leaf that doesn't reach an end ends before it
pub ends_before : (slot : Slot) (to : Option KeyBytes) (high : Option (Bor KeyBytes)) → option_copied high ≡ high_of slot → EndsBelow (option_copied high) to → EndsBefore slot to high
ends_before slot to None is below = absurd below
ends_before slot to (Some high) is below = sym is

module _ (tree : TreeView) (lawful : AreLevels tree.slots tree.root tree.levels) (distinct : HasDistinctStamps (row_writes tree.slots (row tree.levels 0))) (stamp most : ℕ) (at : KeyBytes) (to : Option KeyBytes) (old new : List Pair) where
  -- a scan that read enough on a leaf has all
  pub has_enough : (end : Option (Bor KeyBytes)) → IsLeafRead tree stamp most at to old new end → most ≤ length new → (from : KeyBytes) → IsReadUpto tree stamp most from to old (Some at) → IsReadUpto tree stamp most from to new None
  has_enough end leaf enough from before =
      is_enough_read tree lawful distinct stamp most from to at leaf.page leaf.home old new before leaf.pairs enough

  -- and else it goes on where the leaf ends, if it doesn't reach the range's end
  pub goes_on : (end : Option (Bor KeyBytes)) → IsLeafRead tree stamp most at to old new end → (from : KeyBytes) → IsReadUpto tree stamp most from to old (Some at) → IsReadUpto tree stamp most from to new (option_copied end)
  goes_on None leaf from before =
      ends_read tree lawful distinct stamp most from to at leaf.page leaf.home old new before leaf.pairs leaf.ends
  goes_on (Some end) leaf from before =
      (next_read tree lawful distinct stamp most from to at leaf.page leaf.home old new before leaf.pairs end.now leaf.ends).has_read

module _ (tree : TreeView) (stamp : ℕ) where
  -- a scan that has read nothing is under way
  pub begun : (op : Op) (at : Option KeyBytes) (read : List Pair) → key_of op ≡ None → BeginsAt op at → read ≡ [] → IsUnderWay (record { tree = tree; op = op; stamp = stamp }) at read
  begun op at read keyless first none = record { keyless = keyless; has_read = by op at first }
    where
      by : (op : Op) (at : Option KeyBytes) → BeginsAt op at → HasReadOf tree stamp op at read
      by (Scan from to most) None nothing = none ∙ sym (nothing (contents_at tree stamp)).0
      by (Scan from to most) (Some key) is = subst (HasRead (pairs_of_range (contents_at tree stamp) from to) most read from) (sym is) (begins tree stamp most from to read none)
      by (Get key) at first = tt
      by (Insert key v) at first = tt
      by (Upsert key v) at first = tt
      by (Update key v) at first = tt
      by (Delete key) at first = tt
      by (SwapIf key old new) at first = tt
      by (Rscan from to most) at first = tt

  -- so is one that has read a leaf
  pub went_on : (op : Op) (from : KeyBytes) (to : Option KeyBytes) (most : ℕ) (at : KeyBytes) (next : Option KeyBytes) (read new : List Pair) → op ≡ Scan from to most → IsUnderWay (record { tree = tree; op = op; stamp = stamp }) (Some at) read →
      (IsReadUpto tree stamp most from to read (Some at) → IsReadUpto tree stamp most from to new next) → IsUnderWay (record { tree = tree; op = op; stamp = stamp }) next new
  went_on op from to most at next read new is before step = record {
    keyless = before.keyless;
    has_read = subst (λ o. HasReadOf tree stamp o next new) (sym is) (step (subst (λ o. HasReadOf tree stamp o (Some at) read) is before.has_read));
  }
