use Rattle.bw_level.proofs.AlikeLemmas.{levels_alike}
use Rattle.bw_level.proofs.laws.levels_are_alike.Goals as goal

pub returns : goal.returns
returns c = levels_alike
