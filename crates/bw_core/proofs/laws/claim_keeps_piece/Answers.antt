use Rattle.bw_core.proofs.Events.{claim_keeps_piece}
use Rattle.bw_core.proofs.laws.claim_keeps_piece.Goals as goal

pub returns : goal.returns
returns c = claim_keeps_piece
