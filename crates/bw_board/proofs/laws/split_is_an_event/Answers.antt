use Rattle.bw_board.proofs.Kept.{splitting}
use Rattle.bw_board.proofs.laws.split_is_an_event.Goals as goal

pub returns : goal.returns
returns c = splitting
