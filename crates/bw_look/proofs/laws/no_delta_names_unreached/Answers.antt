use Rattle.bw_look.proofs.DeltaNameLemmas.{no_delta_for}
use Rattle.bw_look.proofs.laws.no_delta_names_unreached.Goals as goal

pub returns : goal.returns
returns c = no_delta_for
