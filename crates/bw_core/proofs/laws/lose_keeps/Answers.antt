use Rattle.bw_core.proofs.Events.{lose_keeps}
use Rattle.bw_core.proofs.laws.lose_keeps.Goals as goal

pub returns : goal.returns
returns c = lose_keeps
