use Rattle.std.proofs.Common.{◌≡◌, false, ◌-◌, ◌<◌, ◌++◌, ℕ, List, [], take, drop, length, ap, sym, subst, ◌∙◌, arith}
use Rattle.std.specs.List.{AllByRecursion}
use Rattle.bw_model.specs.declared.operations.Op.{Op}
use Rattle.bw_delta.proofs.Zips.{whole}
use Rattle.bw_model.specs.Contents.{is_below_end}
use Rattle.bw_tree.specs.Levels.{IsOneHome}
use Rattle.bw_tree.specs.Scans.{high_of}
use Rattle.bw_tree.specs.Slots.{slot_at}
use Rattle.bw_group.specs.Homes.{with_number}
use Rattle.bw_group.specs.Points.{GroupingView, IsEntryOf, entries_at, entries_in, entries_from, entries_of, key_at}
use Rattle.bw_group.specs.declared.points.Point.{Point}
use Rattle.bw_group.proofs.PointGroups.{part_holds, places_within}
use Rattle.bw_group.proofs.Groups.{point_of}
use Rattle.bw_group.proofs.HomeRuns.{later_above}
use Rattle.bw_group.proofs.Wholes.{batch_entries}
use Rattle.bw_group.proofs.FoundHomes.{IsRun, all_found, none_found, run_found, with_number_length}
use Rattle.bw_group.proofs.homes.find_homes.Goals as goal

pub loop-start-init : goal.loop-start-init
loop-start-init g c = record {
  found = none_found c.args.tree.now c.args.batch.now.ops c.batch.inside.points.items c.new-pages.result.items c.in_ok-numbers.numbers.items c.new-pages.ensures.items
      (c.in_ok-numbers.ensures ∙ ap (λ (v : GroupingView). length v.ops) c.batch.view_is);
  tree = c.new-routes.ensures.tree ∙ c.look.ensures;
}

pub set_numbers-requires : goal.set_numbers-requires
set_numbers-requires g c =
    let entries = batch_entries c.batch.inside.ops.now (entries_of c.batch.inside.points.items) c.batch.invariant.grouped.same in
    let size : length c.batch.inside.ops.now ≡ length c.as_mut_slice.result.now = ap (λ (v : GroupingView). length v.ops) c.batch.view_is ∙ sym c.loop-start.invariant.found.count ∙ sym (ap length c.as_mut_slice.ensures.value) in
    subst (λ (l : List Point). AllByRecursion (λ e. e.1 < length c.as_mut_slice.result.now) (entries_of (take (c.run_at-run.result.end - c.loop-start.start) (drop c.loop-start.start l)))) (sym c.deref-in-loop-start-2.ensures.value)
    (places_within c.batch.inside.ops.now _ _ size (part_holds (IsEntryOf c.batch.inside.ops.now) c.batch.inside.points.items c.loop-start.start (c.run_at-run.result.end - c.loop-start.start) entries))

pub loop-start-preserved : goal.loop-start-preserved
loop-start-preserved g c =
    let ops = c.batch.inside.ops.now in
    let same : ops ≡ c.args.batch.now.ops = ap (λ (v : GroupingView). v.ops) c.batch.view_is in
    let points = c.batch.inside.points.items in
    let n = c.loop-start.start in
    let m = c.run_at-run.result.end in
    let page = c.run_at-run.result.page in
    let numbers = c.loop-start.numbers.items in
    let numbers' = c.set_numbers.new.numbers in
    let number = length c.loop-start.pages.items in
    let count : c.len-in-loop-start.result ≡ number = c.len-in-loop-start.ensures.value in
    let any = point_of [] 0 in
    let part = λ (l : List Point). entries_of (take (m - n) (drop n l)) in
    let here = c.deref-in-loop-start-2.ensures.value in
    let listed : numbers' ≡ with_number numbers (part points) number =
    c.set_numbers.ensures ∙ ap (λ (k : ℕ). with_number c.as_mut_slice.result.now (part c.deref-in-loop-start-2.result.now) k) count ∙ ap (λ (l : List Point). with_number c.as_mut_slice.result.now (part l) number) here ∙ ap (λ (l : List ℕ). with_number l (part points) number) c.as_mut_slice.ensures.value in
    let size : length numbers' ≡ length numbers = ap length listed ∙ with_number_length numbers (part points) number in
    let back : take (length numbers) (numbers' ++ drop (length numbers') numbers) ≡ numbers' = whole (length numbers) numbers' (drop (length numbers') numbers) (sym size) in
    let entries = batch_entries ops (entries_of points) c.batch.invariant.grouped.same in
    let run : IsRun c.args.tree.now c.args.batch.now.ops points n m page = record {
      more = omega (arith, c.run_at-run.ensures.found.more, c.run_at-run.ensures.start);
      bound = omega (arith, c.run_at-run.ensures.found.bound, c.deref-in-loop-start.ensures.len, c.batch.inside.points.ok);
      there = c.run_at-run.ensures.found.there;
      entries = subst (λ (l : List Op). AllByRecursion (IsEntryOf l) (part points)) same (part_holds (IsEntryOf ops) points n (m - n) entries);
      at_home = subst (λ (l : List Point). AllByRecursion (λ e. IsOneHome c.args.tree.now.slots c.args.tree.now.levels e.0 page) (part l)) c.deref-in-loop-start.ensures.value
          (subst (λ (s : ℕ). AllByRecursion (λ e. IsOneHome c.args.tree.now.slots c.args.tree.now.levels e.0 page) (entries_in c.deref-in-loop-start.result.now s m)) c.run_at-run.ensures.start c.run_at-run.ensures.found.homes);
      sorted = λ d lt. later_above points n m d c.batch.invariant.grouped.sorted (omega (arith, c.run_at-run.ensures.found.more, c.run_at-run.ensures.start)) lt;
      whole = λ d lt. subst (λ (l : List Point). m < length l → is_below_end (high_of (slot_at c.args.tree.now.slots page)) (key_at l m d) ≡ false) c.deref-in-loop-start.ensures.value
          (λ (h : m < length c.deref-in-loop-start.result.now). c.run_at-run.ensures.found.whole h d) lt;
    } in
    record {
      found = run_found c.args.tree.now c.args.batch.now.ops points n m page run c.loop-start.pages.items numbers c.push.new.self.items _ any c.loop-start.invariant.found c.in_ok-push.ensures.ok (back ∙ listed);
      tree = c.run_at-run.ensures.tree;
    }

pub returns : goal.returns
returns g c =
    all_found c.args.tree.now c.args.batch.now.ops c.batch.inside.points.items c.loop-start.start c.loop-start.pages.items c.loop-start.numbers.items (omega (arith, c.loop-start-test.false, c.len.ensures, c.batch.inside.points.ok)) c.loop-start.invariant.found
    (subst (λ (v : GroupingView). (key : _) → entries_at key (entries_of c.batch.inside.points.items) ≡ entries_at key (entries_from 0 v.ops)) c.batch.view_is c.batch.invariant.grouped.same)
