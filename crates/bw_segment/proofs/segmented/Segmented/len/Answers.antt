use Rattle.std.proofs.Common.{arith, length, map, ap}
use Rattle.std.proofs.lemmas.List.{length-map}
use Rattle.bw_segment.specs.Segments.{SegmentedView}
use Rattle.bw_segment.proofs.SegmentsLemmas.{length_joined}
use Rattle.bw_segment.proofs.segmented.Segmented.len.Goals as goal

pub returns : goal.returns
returns g c =
    let full = map (λ v. v.items) c.self.inside.full.items in
    let all = length_joined full c.self.inside.last.items c.self.invariant.lengths in
    let seen = ap (λ (s : SegmentedView _). length s.items) c.self.view_is in
    omega (arith, all, seen, length-map c.self.inside.full.items (λ v. v.items), c.len.ensures, c.len-2.ensures, c.self.inside.full.ok, c.self.inside.last.ok)
