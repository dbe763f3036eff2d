use Rattle.std.proofs.Common.{◌≡◌, ◌++◌, reverse, take}
use Rattle.bw_delta.proofs.range_reads.add_back.Given as goal

abbrev pub invariant-loop-place : goal.invariant-loop-place
invariant-loop-place l = l.read ≡ l.fn.read ++ take l.place (reverse l.run)
