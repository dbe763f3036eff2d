use Rattle.bw_core.proofs.Claims.{claim_takes_free}
use Rattle.bw_core.proofs.laws.claim_takes_free.Goals as goal

pub returns : goal.returns
returns c = claim_takes_free
