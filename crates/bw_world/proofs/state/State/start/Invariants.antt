use Rattle.std.proofs.Common.{◌≡◌, replicate}
use Rattle.bw_world.proofs.state.State.start.Given as goal

abbrev pub invariant-loop-rec : goal.invariant-loop-rec
invariant-loop-rec l = l.links.items ≡ replicate l.«rec» 0
