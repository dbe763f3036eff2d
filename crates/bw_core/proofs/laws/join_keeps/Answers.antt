use Rattle.bw_core.proofs.Seats.{join_keeps}
use Rattle.bw_core.proofs.laws.join_keeps.Goals as goal

pub returns : goal.returns
returns c = join_keeps
