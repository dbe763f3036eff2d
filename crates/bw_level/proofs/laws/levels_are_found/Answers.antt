use Rattle.bw_level.proofs.LevelLemmas.{levels_now}
use Rattle.bw_level.proofs.laws.levels_are_found.Goals as goal

pub returns : goal.returns
returns c = levels_now
