use Rattle.bw_board.proofs.Kept.{linking}
use Rattle.bw_board.proofs.laws.link_is_an_event.Goals as goal

pub returns : goal.returns
returns c = linking
