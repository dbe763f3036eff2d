use Rattle.bw_core.proofs.Runs.{fresh_is_read}
use Rattle.bw_core.proofs.laws.fresh_is_read.Goals as goal

pub returns : goal.returns
returns c = fresh_is_read
