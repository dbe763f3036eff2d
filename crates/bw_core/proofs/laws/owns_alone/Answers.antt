use Rattle.bw_core.proofs.Claims.{owns_alone}
use Rattle.bw_core.proofs.laws.owns_alone.Goals as goal

pub returns : goal.returns
returns c = owns_alone
