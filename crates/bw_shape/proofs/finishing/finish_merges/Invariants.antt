use Rattle.bw_shape.proofs.TidyLemmas.{KeepsTidy}
use Rattle.bw_shape.proofs.finishing.finish_merges.Given as goal

abbrev pub invariant-loop-place : goal.invariant-loop-place
invariant-loop-place l = KeepsTidy l.fn.tree l.tree
