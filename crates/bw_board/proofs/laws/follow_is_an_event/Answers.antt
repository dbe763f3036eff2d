use Rattle.bw_board.proofs.Kept.{following}
use Rattle.bw_board.proofs.laws.follow_is_an_event.Goals as goal

pub returns : goal.returns
returns c = following
