use Rattle.bw_level.proofs.EntryLemmas.{child_kept}
use Rattle.bw_level.proofs.laws.child_is_kept.Goals as goal

pub returns : goal.returns
returns c = child_kept
