use Rattle.bw_text.proofs.ReadBackLemmas.{keys_back}
use Rattle.bw_text.proofs.laws.keys_are_read_back.Goals as goal

pub returns : goal.returns
returns c = keys_back
