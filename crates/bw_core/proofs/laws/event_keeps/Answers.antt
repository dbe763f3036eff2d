use Rattle.bw_core.proofs.Runs.{event_keeps}
use Rattle.bw_core.proofs.laws.event_keeps.Goals as goal

pub returns : goal.returns
returns c = event_keeps
