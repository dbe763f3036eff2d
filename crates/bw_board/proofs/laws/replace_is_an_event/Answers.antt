use Rattle.bw_board.proofs.Kept.{replacing}
use Rattle.bw_board.proofs.laws.replace_is_an_event.Goals as goal

pub returns : goal.returns
returns c = replacing
