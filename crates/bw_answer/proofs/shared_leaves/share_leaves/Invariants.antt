use Rattle.std.proofs.Common.{◌≡◌}
use Rattle.bw_answer.proofs.shared_leaves.share_leaves.Given as goal

abbrev pub invariant-loop-turn : goal.invariant-loop-turn
invariant-loop-turn l = record { scans : l.scans ≡ l.fn.scans; tree : l.leaf.tree ≡ l.fn.tree }
