use Rattle.bw_board.proofs.Kept.{looking}
use Rattle.bw_board.proofs.laws.look_is_an_event.Goals as goal

pub returns : goal.returns
returns c = looking
