use Rattle.bw_batch.proofs.LeavesLemmas.{same_listed}
use Rattle.bw_batch.proofs.index.Index.tidy.Goals as goal

pub returns-clause-leaves : goal.returns-clause-leaves
returns-clause-leaves g c = rw (← c.self.view_is) (λ same. same_listed c.self.inside.tree c.tidy_by.new.tree (c.tidy_by.ensures.holds.leaves same))
