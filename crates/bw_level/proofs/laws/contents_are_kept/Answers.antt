use Rattle.bw_level.proofs.StepLemmas.{contents_kept}
use Rattle.bw_level.proofs.laws.contents_are_kept.Goals as goal

pub returns : goal.returns
returns c = contents_kept
