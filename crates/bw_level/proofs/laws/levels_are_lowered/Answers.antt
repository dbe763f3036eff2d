use Rattle.bw_level.proofs.LoweringLemmas.{levels_lower}
use Rattle.bw_level.proofs.laws.levels_are_lowered.Goals as goal

pub returns : goal.returns
returns c = levels_lower
