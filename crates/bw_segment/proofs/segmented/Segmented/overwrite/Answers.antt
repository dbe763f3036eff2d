use Rattle.std.proofs.Common.{arith, length, map, ap, ◌∙◌}
use Rattle.bw_segment.specs.Segments.{SegmentedView}
use Rattle.bw_segment.proofs.SegmentsLemmas.{length_joined, one_more_over}
use Rattle.bw_segment.proofs.segmented.Segmented.overwrite.Goals as goal

pub overflow_add-start : goal.overflow_add-start
overflow_add-start g c =
    let full = map (λ v. v.items) c.self.inside.full.items in
    let all = length_joined full c.self.inside.last.items c.self.invariant.lengths in
    let seen = ap (λ (s : SegmentedView _). length s.items) c.self.view_is in
    omega (arith, all, seen, c.requires, c.loop-place-test.true, c.self.invariant.few, c.self.invariant.rest)

pub loop-place-preserved : goal.loop-place-preserved
loop-place-preserved g c = record {
  items = c.set.ensures.items ∙ one_more_over c.args.self.now.items c.args.entries.now c.loop-place.self.items c.args.start c.loop-place.place c.index-entries-place.result c.loop-place-test.true c.requires c.index-entries-place.is c.loop-place.invariant.items;
  room = c.set.ensures.room ∙ c.loop-place.invariant.room;
}
