use Rattle.bw_text.proofs.ReadBackLemmas.{values_back}
use Rattle.bw_text.proofs.laws.values_are_read_back.Goals as goal

pub returns : goal.returns
returns c = values_back
