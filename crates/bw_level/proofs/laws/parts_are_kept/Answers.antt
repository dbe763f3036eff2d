use Rattle.bw_level.proofs.SplitLemmas.{parts_kept}
use Rattle.bw_level.proofs.laws.parts_are_kept.Goals as goal

pub returns : goal.returns
returns c = parts_kept
