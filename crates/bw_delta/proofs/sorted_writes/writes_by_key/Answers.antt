use Rattle.std.proofs.Common.{IfOk, List, sym, subst}
use Rattle.std.specs.List.Sorted.{IsPermutation}
use Rattle.bw_delta.specs.History.{pointed_to, HasDistinctStamps}
use Rattle.bw_delta.specs.Writes.{WriteView}
use Rattle.bw_delta.proofs.sorted_writes.writes_by_key.Goals as goal

pub in_key_order-requires : goal.in_key_order-requires
in_key_order-requires c = subst HasDistinctStamps (sym c.in_ok-keyed.ensures) c.requires

pub returns-clause-same : goal.returns-clause-same
returns-clause-same c =
    subst (λ (l : List WriteView). IfOk c.in_key_order.result (λ grouped. IsPermutation l (pointed_to grouped.items))) c.in_ok-keyed.ensures c.in_key_order.ensures.same
