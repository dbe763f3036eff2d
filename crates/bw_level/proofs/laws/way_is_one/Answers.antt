use Rattle.bw_level.proofs.WalkLemmas.{one_way_one_end}
use Rattle.bw_level.proofs.laws.way_is_one.Goals as goal

pub returns : goal.returns
returns c = one_way_one_end
