use Rattle.bw_core.proofs.Without.{join_adds}
use Rattle.bw_core.proofs.laws.join_adds.Goals as goal

pub returns : goal.returns
returns c = join_adds
