use Rattle.std.proofs.Common.{sym, subst, List, take, get_or}
use Rattle.std.proofs.lemmas.List.{take_more, take_all}
use Rattle.bw_core.specs.declared.Event.{Event}
use Rattle.bw_core.specs.declared.Event.TheVariants.{Look}
use Rattle.bw_core.specs.World.{World, Lawful}
use Rattle.bw_core.specs.Transitions.{Runs, start_world}
use Rattle.bw_core.proofs.Runs.{start_is_lawful, run_keeps, runs-push}
use Rattle.bw_world.proofs.world.World.replay.Goals as goal

pub loop-event-preserved : goal.loop-event-preserved
loop-event-preserved c = let w : World = start_world c.args.first.now c.args.floor c.args.records c.args.piece c.args.spares.now in let es = c.args.events.now in let i = c.loop-event.event-index in
    let e : Event = get_or es i (Look 0 0) in
    subst (λ (z : List Event). Runs w z c.apply.new.self) (sym (take_more es i (Look 0 0) c.loop-event-test.true))
    (runs-push w (take i es) c.loop-event.world e c.apply.new.self c.in_ok-apply.field-0 c.loop-event.invariant c.in_ok-apply.ensures.played)

pub returns-clause-lawful : goal.returns-clause-lawful
returns-clause-lawful c = let w : World = start_world c.args.first.now c.args.floor c.args.records c.args.piece c.args.spares.now in let q : Lawful w = start_is_lawful c.args.first.now c.args.floor c.args.records c.args.piece c.args.spares.now c.requires in
    (q, run_keeps w q c.args.events.now c.loop-event.world (subst (λ (z : List Event). Runs w z c.loop-event.world) (take_all c.loop-event.event-index c.args.events.now c.loop-event-test.false) c.loop-event.invariant))
