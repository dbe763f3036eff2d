use Rattle.std.proofs.Common.{◌≡◌, length}
use Rattle.bw_shape.proofs.TidyLemmas.{KeepsTidy}
use Rattle.bw_shape.proofs.tidying.lower.Given as goal

abbrev pub invariant-loop : goal.invariant-loop
invariant-loop l = record { tidy : KeepsTidy l.fn.tree l.tree; due : l.due ≡ l.fn.due }

abbrev pub decreases-loop : goal.decreases-loop
decreases-loop l = length l.tree.levels
