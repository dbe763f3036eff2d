use Rattle.bw_delta.proofs.ContentsAsOf.{batch_is_read_in_turn}
use Rattle.bw_delta.proofs.laws.batch_is_read_in_turn.Goals as goal

pub returns : goal.returns
returns c = batch_is_read_in_turn
