use Rattle.std.proofs.Common.{List, [], sym, subst}
use Rattle.std.proofs.lemmas.Result.{IfOk-weaker}
use Rattle.std.specs.List.Sorted.{IsPermutation}
use Rattle.std.specs.Option.{option_copied}
use Rattle.bw_delta.specs.History.{pointed_to, HasDistinctStamps}
use Rattle.bw_delta.specs.Merging.{is_due}
use Rattle.bw_delta.specs.Writes.{WriteView}
use Rattle.bw_delta.proofs.Dues.{due_values}
use Rattle.bw_delta.proofs.Filters.{distinct_filter}
use Rattle.bw_delta.proofs.PairMaps.{both_ok}
use Rattle.bw_delta.proofs.Replays.{none_below_least}
use Rattle.bw_delta.proofs.SortedWrites.{from_sorted}
use Rattle.bw_delta.proofs.consolidation.due_by_key.Goals as goal

pub in_key_order-requires : goal.in_key_order-requires
in_key_order-requires c =
    subst HasDistinctStamps (sym c.in_ok-due.ensures) (distinct_filter (is_due c.args.low.now (option_copied c.args.high) c.args.stamp) (pointed_to c.args.writes.now) c.requires)

pub returns-clause-ordered : goal.returns-clause-ordered
returns-clause-ordered c =
    IfOk-weaker c.in_key_order.result _ _ (λ due sorted. from_sorted [] (pointed_to due.items) (λ d lt. none_below_least _) sorted) c.in_key_order.ensures.grouped

pub returns-clause-values : goal.returns-clause-values
returns-clause-values c =
    let all = pointed_to c.args.writes.now in
    both_ok c.in_key_order.result
    (λ due moved rising q start. due_values c.args.low.now (option_copied c.args.high) c.args.stamp start q all (pointed_to due.items) c.requires
    (subst (λ (l : List WriteView). IsPermutation l (pointed_to due.items)) c.in_ok-due.ensures moved) (rising q))
    c.in_key_order.ensures.same c.in_key_order.ensures.rising
