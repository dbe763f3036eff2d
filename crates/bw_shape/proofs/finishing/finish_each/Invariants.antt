use Rattle.bw_shape.proofs.TidyLemmas.{KeepsTidy}
use Rattle.bw_shape.proofs.finishing.finish_each.Given as goal

abbrev pub invariant-loop-page : goal.invariant-loop-page
invariant-loop-page l = KeepsTidy l.fn.tree l.tree
