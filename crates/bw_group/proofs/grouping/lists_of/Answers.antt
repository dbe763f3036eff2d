use Rattle.std.proofs.Common.{ℕ, List, arith, length, sym, ap, subst, ◌∙◌, ◌+◌, ◌++◌, take, Some}
use Rattle.std.specs.List.{AllByRecursion, list_any}
use Rattle.std.proofs.lemmas.List.{take_all}
use Rattle.std.specs.Option.{option_copied}
use Rattle.bw_group.specs.Points.{IsPointOf, entries_from, entry_at, is_delete, scans_from}
use Rattle.bw_key.specs.Order.{KeyBytes}
use Rattle.bw_delta.specs.Batches.{writes_of}
use Rattle.bw_model.specs.Model.{key_of}
use Rattle.bw_model.specs.declared.operations.Op.{Op}
use Rattle.bw_group.proofs.WriteCounts.{counted_more, one_at_most, seen_more}
use Rattle.bw_group.proofs.PointGroups.{entries_more, point_there, points_more, scans_more, with_point, with_scan, without_point, without_scan}
use Rattle.bw_group.proofs.grouping.lists_of.Goals as goal
use Rattle.bw_group.proofs.grouping.lists_of.Goals.{in-Some+in_ok-push-in-Some, in-None+in_ok-push-in-None}

pub loop-place-preserved : goal.loop-place-preserved
loop-place-preserved c =
    let ops = c.args.ops.now in
    let at = c.loop-place.place in
    let op = c.index-ops-place.result in
    let key = key_of op in
    let points = c.loop-place.points.items in
    let points' = c.match-key.points.items in
    let scans = c.loop-place.scans.items in
    let scans' = c.match-key.scans.items in
    let entries_before = entries_from 0 (take at ops) in
    let entries_after = entries_from 0 (take (at + 1) ops) in
    let more = entries_more ops at op c.loop-place-test.true c.index-ops-place.is in
    let before = scans_from 0 (take at ops) in
    let after = scans_from 0 (take (at + 1) ops) in
    let scans_are = scans_more ops at op c.loop-place-test.true c.index-ops-place.is in
    let writes = counted_more ops at op c.loop-place.writes c.writes_by-writes.result c.loop-place-test.true c.index-ops-place.is c.writes_by-writes.ensures c.loop-place.invariant.writes in
    let few = one_at_most op c.writes_by-writes.result at c.loop-place.writes c.writes_by-writes.ensures c.loop-place.invariant.few in
    let deletes = seen_more ops at op c.loop-place.deletes c.is_delete-deletes.result c.loop-place-test.true c.index-ops-place.is c.is_delete-deletes.ensures c.loop-place.invariant.deletes in
    elim c.match-key.branch [
      | in-Some+in_ok-push-in-Some w ↦
          let added = ap (λ v. v.items) w.points-is ∙ w.in_ok-push-in-Some.ensures.items in
          record {
            entries = with_point points points' entries_before entries_after key w.new.result added (sym c.key.ensures ∙ ap option_copied w.in-Some.is ∙ ap (λ (k : KeyBytes). Some k) (sym w.new.ensures.key))
                c.loop-place.invariant.entries (more ∙ ap (λ (n : ℕ). entries_before ++ entry_at n key) (sym w.new.ensures.place));
            verbs = points_more ops points points' w.new.result added
                (point_there ops at op w.new.result c.loop-place-test.true c.index-ops-place.is w.new.ensures.place (w.new.ensures.verb ∙ w.verb.ensures)) c.loop-place.invariant.verbs;
            scans = without_scan scans scans' before after key at w.in-Some.key.now (ap (λ v. v.items) w.scans-is) (sym c.key.ensures ∙ ap option_copied w.in-Some.is) c.loop-place.invariant.scans scans_are;
            writes = writes;
            few = few;
            deletes = deletes;
          }
      | in-None+in_ok-push-in-None w ↦
          let same = ap (λ v. v.items) w.points-is in
          record {
            entries = without_point points points' entries_before entries_after key at same (sym c.key.ensures ∙ ap option_copied w.in-None.is) c.loop-place.invariant.entries more;
            verbs = subst (AllByRecursion (IsPointOf ops)) (sym same) c.loop-place.invariant.verbs;
            scans = with_scan scans scans' before after key at (ap (λ v. v.items) w.scans-is ∙ w.in_ok-push-in-None.ensures.items) (sym c.key.ensures ∙ ap option_copied w.in-None.is) c.loop-place.invariant.scans scans_are;
            writes = writes;
            few = few;
            deletes = deletes;
          }
    ]

pub returns-clause-entries : goal.returns-clause-entries
returns-clause-entries c = c.loop-place.invariant.entries ∙ ap (entries_from 0) (take_all c.loop-place.place c.args.ops.now c.loop-place-test.false)

pub returns-clause-scans : goal.returns-clause-scans
returns-clause-scans c = c.loop-place.invariant.scans ∙ ap (scans_from 0) (take_all c.loop-place.place c.args.ops.now c.loop-place-test.false)

pub returns-clause-writes : goal.returns-clause-writes
returns-clause-writes c = c.loop-place.invariant.writes ∙ ap (λ (l : List Op). length (writes_of 0 l)) (take_all c.loop-place.place c.args.ops.now c.loop-place-test.false)

pub returns-clause-deletes : goal.returns-clause-deletes
returns-clause-deletes c = c.loop-place.invariant.deletes ∙ ap (list_any is_delete) (take_all c.loop-place.place c.args.ops.now c.loop-place-test.false)

pub overflow_add-writes : goal.overflow_add-writes
overflow_add-writes c = omega (arith, one_at_most c.index-ops-place.result c.writes_by-writes.result c.loop-place.place c.loop-place.writes c.writes_by-writes.ensures c.loop-place.invariant.few, c.loop-place-test.true, c.requires)
