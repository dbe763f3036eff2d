use Rattle.std.proofs.Common.{◌-◌, length}
use Rattle.bw_core.specs.World.{seen_at}
use Rattle.bw_board.specs.Plays.{IsSeated}
use Rattle.bw_board.proofs.Walk.{Walks}
use Rattle.bw_board.proofs.page_chains.peek.Given as goal

abbrev pub invariant-loop-word : goal.invariant-loop-word
invariant-loop-word l = record { seat : IsSeated l.words.table_id l.place; walk : Walks l.fn.place.me.0 l.place.me.0 l.page l.word l.chain.items }

abbrev pub decreases-loop-word : goal.decreases-loop-word
decreases-loop-word l = length (seen_at l.place.me.0.book l.page) - length l.chain.items
