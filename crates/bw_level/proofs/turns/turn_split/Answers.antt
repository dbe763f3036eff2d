use Rattle.std.proofs.Common.{◌∙◌, ap, sym}
use Rattle.bw_level.specs.Changes.{plain}
use Rattle.bw_level.specs.Targets.{lies_from}
use Rattle.bw_level.proofs.TurnLemmas.{stays_split}
use Rattle.bw_level.proofs.turns.turn_split.Goals as goal

pub returns-then-not-lies_from : goal.returns-then-not-lies_from
returns-then-not-lies_from c = λ bases.
    stays_split c.args.target bases (plain c.args.base.now) c.args.sep.now c.args.to c.turn_within.result (ap (lies_from c.args.target) (sym c.bytes.ensures.value) ∙ sym c.if-not-lies_from.ensures) c.turn_within.ensures
