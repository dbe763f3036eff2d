use Rattle.std.proofs.Common.{◌≡◌, ◌<◌, true, false, length, ap, sym, subst, ◌∙◌}
use Rattle.std.proofs.lemmas.List.{take_all}
use Rattle.std.specs.List.{AllByRecursion}
use Rattle.std.specs.List.Sorted.{IsPermutation}
use Rattle.bw_delta.specs.Batches.{writes_of}
use Rattle.bw_tree.specs.PlacedWrites.{writes_at_places}
use Rattle.bw_tree.proofs.PlaceLists.{there_more}
use Rattle.bw_group.specs.Points.{GroupingView, IsEntryOf, IsPointOf, entries_from, entries_of, places_of, writing}
use Rattle.bw_group.proofs.ListParts.{all_at}
use Rattle.bw_group.proofs.PointGroups.{entry_holds, place_within}
use Rattle.bw_group.proofs.Wholes.{batch_entries}
use Rattle.bw_group.proofs.WritePlaces.{IsTold, all_of_entries, with_place, without_place, writing_same}
use Rattle.bw_group.proofs.grouping.Grouping.write_places.Goals as goal
use Rattle.bw_group.proofs.grouping.Grouping.write_places.Goals.{else-not-is_get, then-not-is_get+in_ok-push}

different : true ≡ false → ⊥
different e = cc

pub loop-point-preserved : goal.loop-point-preserved
loop-point-preserved c =
    let ops = c.args.self.now.ops in
    let points = c.points-points.result.now in
    let places = c.loop-point.places.items in
    let at = c.loop-point.point-index in
    let point = c.point-item.result in
    let lt = c.loop-point-test.true in
    let entries = subst (AllByRecursion (IsEntryOf ops)) (sym c.points-points.ensures.points) (batch_entries ops c.args.self.now.points c.points-points.ensures.grouped.same) in
    let told : IsTold ops point = record {
      entry = entry_holds (IsEntryOf ops) points at point lt c.point-item.is entries;
      verb = all_at (IsPointOf ops) points at point lt c.point-item.is c.points-points.ensures.verbs;
    } in
    elim c.if-not-is_get.branch [
      | then-not-is_get+in_ok-push w ↦
          let added = ap (λ v. v.items) w.places-is ∙ w.in_ok-push.ensures.items in
          record {
            there = there_more (length ops) places c.if-not-is_get.places.items point.place c.loop-point.invariant.there (place_within ops (point.key.now, point.place) told.entry) added;
            listed = with_place ops places c.if-not-is_get.places.items points at point lt c.point-item.is told (λ get. different (sym (c.is_get.ensures.1 get) ∙ w.if-not-is_get.true)) added c.loop-point.invariant.listed;
          }
      | else-not-is_get w ↦
          let kept = ap (λ v. v.items) w.places-is in
          record {
            there = subst (AllByRecursion (λ n. n < length ops)) (sym kept) c.loop-point.invariant.there;
            listed = without_place ops places c.if-not-is_get.places.items points at point lt c.point-item.is told (c.is_get.ensures.0 w.if-not-is_get.false) kept c.loop-point.invariant.listed;
          }
    ]

-- the places are those of all points
listed_all : (c : goal.After-loop-point) → c.loop-point.places.items ≡ writing c.args.self.now.ops (places_of c.args.self.now.points)
listed_all c =
    let ops = c.args.self.now.ops in
    c.loop-point.invariant.listed
    ∙ ap (λ l. writing ops (places_of (entries_of l))) (take_all c.loop-point.point-index c.points-points.result.now c.loop-point-test.false)
    ∙ ap (λ l. writing ops (places_of l)) c.points-points.ensures.points

pub returns-clause-places : goal.returns-clause-places
returns-clause-places c = listed_all c

pub returns-clause-all : goal.returns-clause-all
returns-clause-all c base =
    let ops = c.args.self.now.ops in
    let permuted = subst (λ (v : GroupingView). IsPermutation (entries_from 0 v.ops) v.points) c.self.view_is c.self.invariant.permuted in
    subst (IsPermutation (writes_of base ops)) (sym (ap (writes_at_places base ops) (listed_all c) ∙ writing_same base ops (places_of c.args.self.now.points)))
    (all_of_entries ops c.args.self.now.points permuted base)
