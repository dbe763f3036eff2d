use Rattle.bw_core.proofs.Seats.{split_keeps}
use Rattle.bw_core.proofs.laws.split_keeps.Goals as goal

pub returns : goal.returns
returns c = split_keeps
