use Rattle.std.proofs.Common.{◌≡◌, T, List, [], ◌∷◌, None, Result, Ok, IfOk, refl, subst}
use Rattle.std.specs.List.{list_all}
use Rattle.bw_key.specs.Order.{KeyBytes}
use Rattle.bw_model.specs.Contents.{is_pair_in_range}
use Rattle.bw_model.specs.Values.{Pair}
use Rattle.bw_page.proofs.Truths.{both_of, true_holds}
use Rattle.bw_delta.proofs.Replays.{from_least}
use Rattle.bw_delta_tests.proofs.tests.merges.leaf_under.Goals as goal

-- each key is from the empty one on
all_inside : (low : KeyBytes) → low ≡ [] → (pairs : List Pair) → T (list_all (is_pair_in_range low None) pairs)
all_inside low least [] = tt
all_inside low least (pair ∷ pairs) = both_of _ _ (true_holds _ (from_least None low pair.0 least tt)) (all_inside low least pairs)

-- what holds of a result that is ok holds of what it has
ok_holds : {A E : Type 0} (P : A → Type 0) (made : Result A E) (found : A) → made ≡ Ok found → IfOk made P → P found
ok_holds {A} {E} P made found is so = subst (λ (made : Result A E). IfOk made P) is so

pub from_pairs-requires : goal.from_pairs-requires
from_pairs-requires g c = record {
  sorted = (ok_holds _ _ c.expect-pairs.result c.expect-pairs.ensures c.leaf_as_of.ensures).sorted;
  inside = all_inside c.expect-least.result (ok_holds (λ key. key ≡ []) _ c.expect-least.result c.expect-least.ensures c.key.ensures.ok) c.expect-pairs.result;
  wide = tt;
  linked = refl;
}
