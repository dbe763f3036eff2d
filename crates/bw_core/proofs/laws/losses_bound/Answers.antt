use Rattle.bw_core.proofs.Losses.{losses_bound}
use Rattle.bw_core.proofs.laws.losses_bound.Goals as goal

pub returns : goal.returns
returns c = losses_bound
