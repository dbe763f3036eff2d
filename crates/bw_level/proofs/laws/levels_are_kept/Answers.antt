use Rattle.bw_level.proofs.StepLemmas.{levels_kept}
use Rattle.bw_level.proofs.laws.levels_are_kept.Goals as goal

pub returns : goal.returns
returns c = levels_kept
