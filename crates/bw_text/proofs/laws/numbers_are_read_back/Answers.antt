use Rattle.bw_text.proofs.ReadBackLemmas.{numbers_back}
use Rattle.bw_text.proofs.laws.numbers_are_read_back.Goals as goal

pub returns : goal.returns
returns c = numbers_back
