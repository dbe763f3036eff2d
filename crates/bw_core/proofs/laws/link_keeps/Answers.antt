use Rattle.bw_core.proofs.Events.{link_keeps}
use Rattle.bw_core.proofs.laws.link_keeps.Goals as goal

pub returns : goal.returns
returns c = link_keeps
