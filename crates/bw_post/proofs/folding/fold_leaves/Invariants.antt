use Rattle.std.proofs.Common.{◌≡◌, ◌-◌, ◌≤◌, ℕ, length}
use Rattle.bw_core.specs.World.{tries_in}
use Rattle.bw_post.specs.Posting.{HasClaimedNothing, width_of}
use Rattle.bw_post.proofs.folding.fold_leaves.Given as goal

abbrev pub invariant-loop-number : goal.invariant-loop-number
invariant-loop-number l = record {
  claimed : HasClaimedNothing l.tree l.homes.pages l.board l.worker;
  width : width_of l.worker ≡ width_of l.fn.worker;
  untried : (n : ℕ) → l.number ≤ n → tries_in n l.worker.seat.book.swaps ≡ 0;
}

abbrev pub decreases-loop-number : goal.decreases-loop-number
decreases-loop-number l = length l.spares - l.number
