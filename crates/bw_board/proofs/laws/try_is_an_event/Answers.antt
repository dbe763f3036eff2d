use Rattle.bw_board.proofs.Kept.{trying}
use Rattle.bw_board.proofs.laws.try_is_an_event.Goals as goal

pub returns : goal.returns
returns c = trying
