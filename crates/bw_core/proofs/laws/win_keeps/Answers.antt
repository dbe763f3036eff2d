use Rattle.bw_core.proofs.Events.{win_keeps}
use Rattle.bw_core.proofs.laws.win_keeps.Goals as goal

pub returns : goal.returns
returns c = win_keeps
