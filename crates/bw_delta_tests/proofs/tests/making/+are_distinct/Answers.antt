use Rattle.std.proofs.Common.{◌≡◌, ℕ, false, List, [], ◌∷◌, length, map, nat_eq, arith, Bor, sym, subst}
use Rattle.std.proofs.lemmas.Map.Keys.{IsDistinct-cons}
use Rattle.std.specs.List.{AllByRecursion, IsDistinct}
use Rattle.bw_delta.specs.History.{pointed_to, HasDistinctStamps}
use Rattle.bw_delta.specs.Writes.{WriteView}
use Rattle.bw_delta_tests.proofs.tests.making.+are_distinct.Goals as goal

none : HasDistinctStamps []
unfolding IsDistinct
none = tt

-- a list of no reference
no_writes : (refs : List (Bor WriteView)) → length refs ≡ 0 → HasDistinctStamps (pointed_to refs)
no_writes [] empty = none
no_writes (r ∷ rs) empty = absurd (omega (arith, empty))

-- one with a new stamp in front of others
one_more : (refs rest : List (Bor WriteView)) (r : Bor WriteView) (stamp : ℕ) → refs ≡ r ∷ rest → stamp ≡ r.now.stamp →
    AllByRecursion (λ other. nat_eq stamp other ≡ false) (map (λ (w : WriteView). w.stamp) (pointed_to rest)) → HasDistinctStamps (pointed_to rest) → HasDistinctStamps (pointed_to refs)
one_more refs rest r stamp is same new distinct =
    let stamps = map (λ (w : WriteView). w.stamp) (pointed_to rest) in
    subst (λ (l : List (Bor WriteView)). HasDistinctStamps (pointed_to l)) (sym is)
    (IsDistinct-cons nat_eq r.now.stamp stamps (subst (λ (n : ℕ). AllByRecursion (λ other. nat_eq n other ≡ false) stamps) same new) distinct)

pub returns-then-is_new : goal.returns-then-is_new
returns-then-is_new t c all =
    one_more c.args.writes.now c.in-Some.rest.now c.in-Some.first.now c.stamp.result c.in-Some.ensures.cases.0 c.stamp.ensures
    (c.is_new.ensures c.if-is_new.true) (c.are_distinct.ensures all)

pub returns-in-None : goal.returns-in-None
returns-in-None t c all = no_writes c.args.writes.now c.in-None.ensures.cases
