use Rattle.bw_trace.proofs.DeterminedLemmas.{determined}
use Rattle.bw_trace.proofs.laws.texts_are_determined.Goals as goal

pub returns : goal.returns
returns c = determined
