use Rattle.std.proofs.Common.{rules}
use Rattle.bw_batch.proofs.IndexContents.{all_pairs}
use Rattle.bw_batch.proofs.index.Index.contents.Goals as goal

pub returns : goal.returns
returns c = rw (← c.self.view_is) (all_pairs c.pairs_from.result _ _ (search rules) c.pairs_from.ensures)
