-- What a tree holds at the keys of a page, by the writes that are found there.
use Rattle.std.proofs.Common.{◌≡◌, ℕ, zero, suc, ◌-◌, ◌<◌, ◌≤◌, List, [], ◌∷◌, length, take, drop, Option, sym, ap, ◌∙◌, subst, arith, length-drop}
use Rattle.std.specs.List.{AllByRecursion, Contains}
use Rattle.std.specs.List.Sorted.{IsPermutation}
use Rattle.std.specs.FinMap.{find, get}
use Rattle.bw_key.specs.Order.{KeyBytes, key_cmp, key_eq}
use Rattle.bw_model.specs.Values.{ValueBytes}
use Rattle.bw_model.specs.declared.operations.Op.{Op}
use Rattle.bw_page.proofs.Search.{same_keys}
use Rattle.bw_delta.specs.Writes.{WriteView}
use Rattle.bw_delta.specs.Batches.{writes_to}
use Rattle.bw_delta.specs.History.{history, action_at, HasDistinctStamps}
use Rattle.bw_delta.proofs.Filters.{same_filtered}
use Rattle.bw_delta.proofs.Histories.{same_history}
use Rattle.bw_tree.specs.Levels.{IsHome, row}
use Rattle.bw_tree.specs.Reading.{base_of, value_in, writes_over}
use Rattle.bw_tree.specs.Slots.{Slot, slot_at}
use Rattle.bw_look.specs.View.{TreeView, contents_at}
use Rattle.bw_group.specs.Homes.{HasPageAt}
use Rattle.bw_group.specs.Points.{Entry, HasKey, IsEntryOf, IsPointOf, entries_of}
use Rattle.bw_group.specs.declared.points.Point.{Point}
use Rattle.bw_group.proofs.PointGroups.{part_holds, part_rises, part_sorted}
use Rattle.bw_group.proofs.ListParts.{all_part}
use Rattle.bw_group.proofs.HomeRuns.{all_both}
use Rattle.bw_group.proofs.HomeReads.{pages_listed}
use Rattle.bw_answer.specs.Replies.{ArePointsOf, IsReadBy, IsReadInTurn, ReaderView}

-- What a tree holds at a key of a page is what the page's sorted writes there make of the value under them.
pub group_read : (tree : TreeView) (p : ℕ) (key : KeyBytes) (pairs : List (KeyBytes × ValueBytes)) (found grouped writes : List WriteView) (start : Option ValueBytes) →
    ((key : KeyBytes) (p stamp : ℕ) → IsHome tree.slots tree.levels key p → get (contents_at tree stamp) key ≡ value_in (slot_at tree.slots p) key stamp) →
    ((key : KeyBytes) → IsHome tree.slots tree.levels key p → find key_cmp key pairs ≡ base_of (slot_at tree.slots p) key) →
    HasDistinctStamps (writes_over (slot_at tree.slots p)) → found ≡ writes_over (slot_at tree.slots p) → IsPermutation found grouped →
    start ≡ find key_cmp key pairs → writes ≡ writes_to key grouped → IsHome tree.slots tree.levels key p → IsReadBy tree start writes key
group_read tree p key pairs found grouped writes start values base distinct all moved value_is writes_are home stamp =
    let slot = slot_at tree.slots p in
    let alike = same_history (base_of slot key) (action_at (writes_to key found)) (action_at (writes_to key grouped)) stamp
    (λ t lt. sym (same_filtered (λ w. key_eq key w.key) found grouped t moved (subst HasDistinctStamps (sym all) distinct))) in
    values key p stamp home
    ∙ ap (λ (ws : List WriteView). history (base_of slot key) (action_at (writes_to key ws)) stamp) (sym all)
    ∙ alike
    ∙ ap (λ (v : Option ValueBytes). history v (action_at (writes_to key grouped)) stamp) (sym (value_is ∙ base key home))
    ∙ ap (λ (ws : List WriteView). history start (action_at ws) stamp) (sym writes_are)

pub group_reads : (tree : TreeView) (key : KeyBytes) (start : Option ValueBytes) (writes : List WriteView) (p : ℕ) (es : List Entry) → (IsHome tree.slots tree.levels key p → IsReadBy tree start writes key) →
    AllByRecursion (HasKey key) es → AllByRecursion (λ e. IsHome tree.slots tree.levels e.0 p) es → AllByRecursion (λ e. IsReadBy tree start writes e.0) es
group_reads tree key start writes p es read same homes =
    all_both (HasKey key) (λ e. IsHome tree.slots tree.levels e.0 p) (λ e. IsReadBy tree start writes e.0)
    (λ e own home. let is = same_keys key e.0 own in subst (IsReadBy tree start writes) is (read (subst (λ k. IsHome tree.slots tree.levels k p) (sym is) home)))
    es same homes

-- a page on which the first of some points is at home is a leaf
pub first_home : (slots : List Slot) (levels : List (List ℕ)) (p : ℕ) (ps : List Point) (n m : ℕ) → n < m → m ≤ length ps → AllByRecursion (λ e. IsHome slots levels e.0 p) (entries_of (take (m - n) (drop n ps))) → Contains (row levels 0) p
first_home slots levels p ps n m more bound homes = by (m - n) (omega (arith, more)) (drop n ps) (omega (arith, more, bound, length-drop n ps)) homes
  where
    by : (k : ℕ) → 0 < k → (qs : List Point) → 0 < length qs → AllByRecursion (λ e. IsHome slots levels e.0 p) (entries_of (take k qs)) → Contains (row levels 0) p
    by zero some qs left homes = absurd (omega (arith, some))
    by (suc k) some [] left homes = absurd (omega (arith, left))
    by (suc k) some (q ∷ qs) left homes = homes.0.reached.in_level

-- the page of each entry, as one who has the fields of a reader knows it
pub all_listed : (inside batch : ReaderView) → inside ≡ batch → IsReadInTurn inside → (es : List Entry) → AllByRecursion (IsEntryOf batch.ops) es → AllByRecursion (λ e. HasPageAt inside.homes e.1) es
all_listed inside batch is read es entries =
    subst (λ (v : ReaderView). AllByRecursion (λ e. HasPageAt v.homes e.1) es) (sym is) (pages_listed batch.tree batch.ops batch.homes (subst IsReadInTurn is read).homes es entries)

-- some of the points of a batch that follow one another
pub points_part : (ops : List Op) (ps : List Point) (n k : ℕ) → ArePointsOf ops ps → ArePointsOf ops (take k (drop n ps))
points_part ops ps n k points = record {
  sorted = part_sorted ps n k points.sorted;
  entries = part_holds (IsEntryOf ops) ps n k points.entries;
  rising = part_rises ps n k points.rising;
  verbs = all_part (IsPointOf ops) ps n k points.verbs;
}
