use Rattle.std.proofs.Common.{◌≡◌, ◌-◌, ◌<◌, ◌^◌}
use Rattle.bw_board.specs.Plays.{lost_in}
use Rattle.bw_post.specs.Posting.{HasWorked, width_of}
use Rattle.bw_post.proofs.OwnedCounts.{owned_count}
use Rattle.bw_post.proofs.workers.post_claimed.Given as goal

abbrev pub invariant-loop-span : goal.invariant-loop-span
invariant-loop-span g l = record { worked : HasWorked l.tree l.homes.pages l.board l.worker; width : width_of l.worker ≡ width_of l.fn.worker; few : lost_in l.worker.seat.book.posted < 2 ^ 64 }

abbrev pub decreases-loop-span : goal.decreases-loop-span
decreases-loop-span g l = l.board.records - owned_count l.board.records l.worker.seat.book
