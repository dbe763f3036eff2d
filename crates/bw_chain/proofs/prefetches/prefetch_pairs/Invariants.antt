use Rattle.std.proofs.Common.{◌-◌, length}
use Rattle.bw_chain.proofs.prefetches.prefetch_pairs.Given as goal

abbrev pub decreases-loop-place : goal.decreases-loop-place
decreases-loop-place l = length l.pairs - l.place
