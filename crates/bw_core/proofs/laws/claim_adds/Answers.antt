use Rattle.bw_core.proofs.Without.{claim_adds}
use Rattle.bw_core.proofs.laws.claim_adds.Goals as goal

pub returns : goal.returns
returns c = claim_adds
