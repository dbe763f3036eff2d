use Rattle.bw_level.proofs.FreeingLemmas.{page_freed}
use Rattle.bw_level.proofs.laws.freed_page_is_kept.Goals as goal

pub returns : goal.returns
returns c = page_freed
