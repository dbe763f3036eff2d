use Rattle.std.proofs.Common.{◌≡◌, [], is_some, sym, subst}
use Rattle.std.specs.Prelude.{IfSome}
use Rattle.bw_delta.specs.declared.deltas.Delta.{Delta}
use Rattle.bw_level.specs.Changes.{Bases, change, plain}
use Rattle.bw_level.specs.Roots.{IsNeighbour}
use Rattle.bw_level.specs.Slots.{side_of_slot}
use Rattle.bw_level.proofs.TurnLemmas.{linked_under}
use Rattle.bw_level.proofs.page_neighbours.neighbour_over.Goals as goal

pub neighbour_plain-requires : goal.neighbour_plain-requires
neighbour_plain-requires c = linked_under c.args.delta.now (plain c.args.base.now) c.in-AddChild.is (c.requires.linked [])

pub returns-in-Split-clause-there : goal.returns-in-Split-clause-there
returns-in-Split-clause-there c = λ bases.
    subst (λ (d : Delta). is_some c.neighbour_split.result ≡ is_some (side_of_slot (change bases d (plain c.args.base.now)))) (sym c.in-Split.is) (c.neighbour_split.ensures.there bases)

pub returns-in-Split-clause-page : goal.returns-in-Split-clause-page
returns-in-Split-clause-page c =
    subst (λ (d : Delta). IfSome c.neighbour_split.result (λ found. (bases : Bases) → IsNeighbour (change bases d (plain c.args.base.now)) found.0 found.1.now found.2)) (sym c.in-Split.is) c.neighbour_split.ensures.page
