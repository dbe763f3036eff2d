use Rattle.bw_core.proofs.Runs.{run_keeps}
use Rattle.bw_core.proofs.laws.run_keeps.Goals as goal

pub returns : goal.returns
returns c = run_keeps
