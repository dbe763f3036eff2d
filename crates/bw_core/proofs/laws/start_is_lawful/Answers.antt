use Rattle.bw_core.proofs.Runs.{start_is_lawful}
use Rattle.bw_core.proofs.laws.start_is_lawful.Goals as goal

pub returns : goal.returns
returns c = start_is_lawful
