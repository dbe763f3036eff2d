use Rattle.std.proofs.Common.{ℕ}
use Rattle.bw_tree.specs.TreeFreeing.{MayBeFreed}
use Rattle.bw_steps.specs.Releasing.{AreFreed}
use Rattle.bw_steps.proofs.FreedLemmas.{IsFrom}
use Rattle.bw_steps.proofs.release_runs.release_all.Given as goal

abbrev pub invariant-loop-place : goal.invariant-loop-place
invariant-loop-place l = record {
  freed : AreFreed l.fn.tree l.tree;
  left : (p : ℕ) → MayBeFreed l.tree p → IsFrom l.pages.items l.place p;
}
