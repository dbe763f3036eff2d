use Rattle.std.proofs.Common.{take}
use Rattle.bw_core.specs.Transitions.{Runs, start_world}
use Rattle.bw_world.proofs.world.World.replay.Given as goal

abbrev pub invariant-loop-event : goal.invariant-loop-event
invariant-loop-event l = Runs (start_world l.first l.floor l.records l.piece l.spares) (take l.event-index l.events) l.world
