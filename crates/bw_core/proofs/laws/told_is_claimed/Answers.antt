use Rattle.bw_core.proofs.Claims.{told_is_claimed}
use Rattle.bw_core.proofs.laws.told_is_claimed.Goals as goal

pub returns : goal.returns
returns c = told_is_claimed
