use Rattle.std.proofs.Common.{◌≡◌, ◌++◌, length, take}
use Rattle.bw_segment.proofs.segmented.Segmented.append_segment.Given as goal

abbrev pub invariant-loop-entry : goal.invariant-loop-entry
invariant-loop-entry g l = record {
  items : l.self.items ++ l.entry-iterator.rest.items ≡ l.fn.self.items ++ l.fn.segment.items;
  others : take (length l.fn.self.items) l.self.items ≡ l.fn.self.items;
}
