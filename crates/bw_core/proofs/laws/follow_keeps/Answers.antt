use Rattle.bw_core.proofs.Runs.{follow_keeps}
use Rattle.bw_core.proofs.laws.follow_keeps.Goals as goal

pub returns : goal.returns
returns c = follow_keeps
