use Rattle.std.proofs.Common.{◌≡◌}
use Rattle.bw_look.specs.Folding.{put_leaves}
use Rattle.bw_look.proofs.folded.put_leaves.Given as goal

abbrev pub invariant-loop-page : goal.invariant-loop-page
invariant-loop-page l = (l.chains.bases ≡ put_leaves l.fn.chains.bases l.yielded) × (l.chains.records ≡ l.fn.chains.records)
