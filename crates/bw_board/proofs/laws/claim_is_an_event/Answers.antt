use Rattle.bw_board.proofs.Kept.{claiming}
use Rattle.bw_board.proofs.laws.claim_is_an_event.Goals as goal

pub returns : goal.returns
returns c = claiming
