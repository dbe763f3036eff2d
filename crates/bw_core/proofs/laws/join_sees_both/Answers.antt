use Rattle.bw_core.proofs.Seats.{join_sees_both}
use Rattle.bw_core.proofs.laws.join_sees_both.Goals as goal

pub returns : goal.returns
returns c = join_sees_both
