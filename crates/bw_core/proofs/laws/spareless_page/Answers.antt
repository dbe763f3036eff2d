use Rattle.bw_core.proofs.Without.{spareless_page}
use Rattle.bw_core.proofs.laws.spareless_page.Goals as goal

pub returns : goal.returns
returns c = spareless_page
