use Rattle.std.proofs.Common.{sym, subst}
use Rattle.bw_core.specs.World.{Lawful}
use Rattle.bw_core.specs.Transitions.{IsWorld}
use Rattle.bw_core.proofs.Runs.{start_is_world, start_is_lawful}
use Rattle.bw_world.proofs.world.World.start.Goals as goal

pub invariant_of-result : goal.invariant_of-result
invariant_of-result c = subst IsWorld (sym c.in_ok-state.ensures) (start_is_world c.args.first.now c.args.floor c.args.records c.args.piece c.args.spares.now c.requires)

pub returns-clause-lawful : goal.returns-clause-lawful
returns-clause-lawful c = subst Lawful (sym c.in_ok-state.ensures) (start_is_lawful c.args.first.now c.args.floor c.args.records c.args.piece c.args.spares.now c.requires)
