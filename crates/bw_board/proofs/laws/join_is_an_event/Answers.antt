use Rattle.bw_board.proofs.Kept.{joining}
use Rattle.bw_board.proofs.laws.join_is_an_event.Goals as goal

pub returns : goal.returns
returns c = joining
