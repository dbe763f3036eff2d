use Rattle.std.proofs.Common.{◌≡◌, ◌+◌, ◌++◌, drop, take}
use Rattle.bw_segment.proofs.segmented.Segmented.overwrite.Given as goal

abbrev pub invariant-loop-place : goal.invariant-loop-place
invariant-loop-place g l = record {
  items : l.self.items ≡ take l.start l.initial.self.items ++ take l.place l.entries ++ drop (l.start + l.place) l.initial.self.items;
  room : l.self.room ≡ l.initial.self.room;
}
