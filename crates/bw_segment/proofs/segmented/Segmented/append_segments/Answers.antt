use Rattle.std.proofs.Common.{ap, arith, map, subst}
use Rattle.bw_segment.proofs.SegmentsLemmas.{AreFull, added_more, first_full, rest_full, still_first}
use Rattle.bw_segment.proofs.segmented.Segmented.append_segments.Goals as goal

pub append_segment-requires : goal.append_segment-requires
append_segment-requires g c =
    let all = subst AreFull (ap (map (λ v. v.items)) c.in-Some.ensures.steps.0) c.loop-segment.invariant.full in
    let first = first_full c.in-Some.segment.items (map (λ v. v.items) c.next.new.self.rest.items) all in
    omega (arith, first)

pub loop-segment-preserved : goal.loop-segment-preserved
loop-segment-preserved g c =
    let i = c.loop-segment.invariant in
    let xs = c.in-Some.segment.items in
    let rest = map (λ v. v.items) c.next.new.self.rest.items in
    let step = ap (map (λ v. v.items)) c.in-Some.ensures.steps.0 in
    let added = c.in_ok-append_segment.ensures.ok in
    record {
      full = rest_full xs rest (subst AreFull step i.full);
      items = added_more c.loop-segment.self.items c.append_segment.new.self.items xs _ _ rest c.other.inside.last.items step i.items added;
      others = still_first c.args.self.now.items c.loop-segment.self.items c.append_segment.new.self.items xs i.others added;
    }
