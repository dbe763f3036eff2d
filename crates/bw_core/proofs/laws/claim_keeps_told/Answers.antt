use Rattle.bw_core.proofs.Events.{claim_keeps_told}
use Rattle.bw_core.proofs.laws.claim_keeps_told.Goals as goal

pub returns : goal.returns
returns c = claim_keeps_told
