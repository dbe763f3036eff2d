use Rattle.bw_text.proofs.ReadBackLemmas.{number_values_back}
use Rattle.bw_text.proofs.laws.number_values_are_read_back.Goals as goal

pub returns : goal.returns
returns c = number_values_back
