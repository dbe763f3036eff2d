use Rattle.bw_core.proofs.Events.{replace_keeps_won}
use Rattle.bw_core.proofs.laws.replace_keeps_won.Goals as goal

pub returns : goal.returns
returns c = replace_keeps_won
