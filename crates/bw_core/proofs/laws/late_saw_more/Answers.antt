use Rattle.bw_core.proofs.Events.{saw_more}
use Rattle.bw_core.proofs.laws.late_saw_more.Goals as goal

pub returns : goal.returns
returns c = saw_more
