use Rattle.std.proofs.Common.{length}
use Rattle.bw_chain.specs.Removed.{HasAllRemoved}
use Rattle.bw_chain.proofs.bases.pass_removed.Given as goal

abbrev pub invariant-loop-number : goal.invariant-loop-number
invariant-loop-number l = HasAllRemoved l.bases.items l.fn.numbers.items → HasAllRemoved l.bases.items l.numbers.items

abbrev pub decreases-loop-number : goal.decreases-loop-number
decreases-loop-number l = length l.numbers.items
