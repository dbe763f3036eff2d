use Rattle.bw_chain.specs.Vacancy.{AreVacantFrom}
use Rattle.bw_chain.proofs.chains.Chains.taken_count.Given as goal

abbrev pub invariant-loop-count : goal.invariant-loop-count
invariant-loop-count l = AreVacantFrom l.self.bases l.count

abbrev pub decreases-loop-count : goal.decreases-loop-count
decreases-loop-count l = l.count
