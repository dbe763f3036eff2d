use Rattle.bw_delta.proofs.Batches as batches
use Rattle.bw_delta.proofs.laws.contents_are_history.Goals as goal

pub returns : goal.returns
returns c = batches.contents_are_history
