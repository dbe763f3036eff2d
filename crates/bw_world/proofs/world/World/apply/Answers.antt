use Rattle.std.proofs.Common.{subst, IfOk}
use Rattle.bw_core.specs.World.{World, Lawful, Keeps}
use Rattle.bw_core.proofs.Runs.{played_world, played_keeps}
use Rattle.bw_world.proofs.world.World.apply.Goals as goal

pub invariant_of-self : goal.invariant_of-self
invariant_of-self c = played_world c.self.inside.state c.play.new.self c.args.event c.play.result c.self.invariant c.play.ensures.ok c.play.ensures.err

pub returns-clause-lawful : goal.returns-clause-lawful
returns-clause-lawful c = subst (λ (z : World). IfOk c.play.result (λ _. (q : Lawful z) × Keeps z q c.play.new.self)) c.self.view_is
    (played_keeps c.self.inside.state c.play.new.self c.args.event c.play.result c.self.invariant c.play.ensures.ok)
