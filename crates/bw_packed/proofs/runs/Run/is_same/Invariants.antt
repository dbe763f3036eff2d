use Rattle.std.proofs.Common.{◌≡◌, drop}
use Rattle.bw_packed.specs.Pairs.{pairs_eq}
use Rattle.bw_packed.proofs.runs.Run.is_same.Given as goal

abbrev pub invariant-loop-place : goal.invariant-loop-place
invariant-loop-place l = pairs_eq l.self l.other ≡ pairs_eq (drop l.place l.self) (drop l.place l.other)
