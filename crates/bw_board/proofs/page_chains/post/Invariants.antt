use Rattle.std.proofs.Common.{◌-◌, ◌+◌}
use Rattle.bw_board.specs.Plays.{IsSeated}
use Rattle.bw_board.proofs.Chase.{Chases}
use Rattle.bw_board.proofs.page_chains.post.Given as goal

abbrev pub invariant-loop-word : goal.invariant-loop-word
invariant-loop-word l = record { seat : IsSeated l.words.table_id l.place; chase : Chases l.fn.place.me.0 l.place.me.0 l.rec l.page l.word l.lost }

abbrev pub decreases-loop-word : goal.decreases-loop-word
decreases-loop-word l = l.fn.place.me.0.records + 1 - l.lost

abbrev pub ghosts-link : goal.ghosts-link
ghosts-link a = record { page = a.page; lost = a.lost }
