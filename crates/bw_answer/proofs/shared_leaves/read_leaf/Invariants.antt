use Rattle.std.proofs.Common.{◌≡◌}
use Rattle.bw_answer.proofs.shared_leaves.read_leaf.Given as goal

abbrev pub invariant-loop-number : goal.invariant-loop-number
invariant-loop-number l = record { scans : l.scans ≡ l.fn.scans; tree : l.leaf.tree ≡ l.fn.leaf.tree }
