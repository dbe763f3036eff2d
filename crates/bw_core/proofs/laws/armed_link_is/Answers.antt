use Rattle.bw_core.proofs.Without.{armed_link_is}
use Rattle.bw_core.proofs.laws.armed_link_is.Goals as goal

pub returns : goal.returns
returns c = armed_link_is
