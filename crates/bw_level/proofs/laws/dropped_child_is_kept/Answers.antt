use Rattle.bw_level.proofs.DropLemmas.{child_dropped}
use Rattle.bw_level.proofs.laws.dropped_child_is_kept.Goals as goal

pub returns : goal.returns
returns c = child_dropped
