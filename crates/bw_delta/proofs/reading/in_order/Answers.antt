use Rattle.std.proofs.Common.{◌≡◌, ◌++◌, List, ap, subst, ◌∙◌, rules, arith}
use Rattle.std.proofs.lemmas.List.Sorted.{IsPermutation-map, IsNonDecreasingBy-from_sort_by_key}
use Rattle.std.specs.Borrow.{Bor}
use Rattle.std.specs.List.Sorted.{IsPermutation}
use Rattle.bw_delta.specs.Writes.{WriteView}
use Rattle.bw_delta.specs.History.{pointed_to}
use Rattle.bw_delta.proofs.Orders.{distinct_permuted, rising_from}
use Rattle.bw_delta.proofs.reading.in_order.Goals as goal
use Rattle.bw_delta.proofs.reading.in_order.Goals.{After-sort_unstable_by_key}

-- the sort moves the references, and so the writes
moved : (c : After-sort_unstable_by_key) → IsPermutation (pointed_to c.args.writes.now) (pointed_to c.sort_unstable_by_key.new.self.items)
moved c =
    let copied : c.extend_from_slice.new.self.items ≡ c.args.writes.now = c.in_ok-extend_from_slice.ensures.items ∙ ap (λ (l : List (Bor WriteView)). l ++ c.args.writes.now) c.new-ordered.ensures.items in
    subst (λ (l : List (Bor WriteView)). IsPermutation (pointed_to l) (pointed_to c.sort_unstable_by_key.new.self.items)) copied
    (IsPermutation-map (λ (r : Bor WriteView). r.now) _ _ c.sort_unstable_by_key.ensures.permutation)

pub returns-clause-rising : goal.returns-clause-rising
returns-clause-rising c =
    let ordered = IsNonDecreasingBy-from_sort_by_key (λ (r : Bor WriteView). r.now.stamp) _ c.sort_unstable_by_key.ensures.sorted (λ a r q k. search rules) in
    rising_from 0 c.sort_unstable_by_key.new.self.items ordered (distinct_permuted _ _ (moved c) c.requires) (λ i d lt. omega arith)

pub returns-clause-same : goal.returns-clause-same
returns-clause-same c = moved c
