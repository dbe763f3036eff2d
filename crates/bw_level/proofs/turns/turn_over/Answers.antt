use Rattle.std.proofs.Common.{[], sym, subst}
use Rattle.bw_delta.specs.declared.deltas.Delta.{Delta}
use Rattle.bw_level.specs.Changes.{change, plain}
use Rattle.bw_level.specs.Targets.{IsLinked, IsTurnFor}
use Rattle.bw_level.proofs.ChangeLemmas.{as_it_is}
use Rattle.bw_level.proofs.TurnLemmas.{linked_before}
use Rattle.bw_level.proofs.turns.turn_over.Goals as goal

pub turn_with_child-requires-clause-linked : goal.turn_with_child-requires-clause-linked
turn_with_child-requires-clause-linked c =
    linked_before [] c.in-AddChild.sep c.in-AddChild.child (plain c.args.base.now) (subst (λ (d : Delta). IsLinked (change [] d (plain c.args.base.now))) c.in-AddChild.is (c.requires.linked []))

pub returns-in-Split : goal.returns-in-Split
returns-in-Split c = λ bases.
    subst (λ (d : Delta). IsTurnFor c.args.target (change bases d (plain c.args.base.now)) c.turn_split.result) (sym c.in-Split.is) (c.turn_split.ensures bases)

pub returns-in-AddChild : goal.returns-in-AddChild
returns-in-AddChild c = λ bases.
    subst (λ (d : Delta). IsTurnFor c.args.target (change bases d (plain c.args.base.now)) c.turn_with_child.result) (sym c.in-AddChild.is) (c.turn_with_child.ensures bases)

pub turn_plain-requires-clause-linked : goal.turn_plain-requires-clause-linked
turn_plain-requires-clause-linked c = subst IsLinked (as_it_is [] c.args.delta.now (plain c.args.base.now) c.in-Absorb.is) (c.requires.linked [])
