use Rattle.bw_level.proofs.StepLemmas.{home_there}
use Rattle.bw_level.proofs.laws.home_is_there.Goals as goal

pub returns : goal.returns
returns c = home_there
