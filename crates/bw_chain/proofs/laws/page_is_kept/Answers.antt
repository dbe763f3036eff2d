use Rattle.bw_chain.proofs.SupportLemmas.{page_kept}
use Rattle.bw_chain.proofs.laws.page_is_kept.Goals as goal

pub returns : goal.returns
returns c = page_kept
