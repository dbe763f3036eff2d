use Rattle.std.proofs.Common.{◌≡◌, ◌++◌, length, map, take}
use Rattle.bw_segment.specs.Segments.{joined}
use Rattle.bw_segment.proofs.SegmentsLemmas.{AreFull}
use Rattle.bw_segment.proofs.segmented.Segmented.append_segments.Given as goal

abbrev pub invariant-loop-segment : goal.invariant-loop-segment
invariant-loop-segment g l = record {
  full : AreFull (map (λ v. v.items) l.segment-iterator.rest.items);
  items : l.self.items ++ joined (map (λ v. v.items) l.segment-iterator.rest.items) l.last.items ≡ l.fn.self.items ++ l.fn.other.items;
  others : take (length l.fn.self.items) l.self.items ≡ l.fn.self.items;
}
