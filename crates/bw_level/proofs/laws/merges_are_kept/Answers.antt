use Rattle.bw_level.proofs.MergeLemmas.{merges_kept}
use Rattle.bw_level.proofs.laws.merges_are_kept.Goals as goal

pub returns : goal.returns
returns c = merges_kept
