use Rattle.bw_level.proofs.RootLemmas.{levels_grow}
use Rattle.bw_level.proofs.laws.levels_are_grown.Goals as goal

pub returns : goal.returns
returns c = levels_grow
