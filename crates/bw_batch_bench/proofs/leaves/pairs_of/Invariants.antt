use Rattle.bw_batch_bench.proofs.RisingPairs.{RiseTo}
use Rattle.bw_batch_bench.proofs.leaves.pairs_of.Given as goal

abbrev pub invariant-loop-number : goal.invariant-loop-number
invariant-loop-number l = RiseTo l.low l.next l.pairs
