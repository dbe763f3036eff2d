use Rattle.std.proofs.Common.{◌≡◌, Bool, true, false, cond, [], List, Option, None, T, refl, sym, ap, subst, ◌∙◌}
use Rattle.std.specs.Borrow.{Bor}
use Rattle.std.specs.FinMap.{find, is_sorted}
use Rattle.std.specs.Option.{option_copied, option_or}
use Rattle.bw_key.specs.Order.{key_cmp}
use Rattle.bw_model.specs.Contents.{is_in_range}
use Rattle.bw_model.specs.Values.{Pair, ValueBytes}
use Rattle.bw_delta.specs.Batches.{writes_to}
use Rattle.bw_delta.specs.History.{history, action_at, pointed_to}
use Rattle.bw_delta.specs.Merging.{after_writes, merged_value, AreFrom}
use Rattle.bw_delta.specs.Writes.{WriteView}
use Rattle.bw_delta.proofs.PairMaps.{both_ok, find_in_range, or_none, sorted_in_range}
use Rattle.bw_delta.proofs.consolidation.leaf_under_writes.Goals as goal

pub merged-requires-clause-sorted : goal.merged-requires-clause-sorted
merged-requires-clause-sorted c =
    subst (λ (l : List Pair). T (is_sorted key_cmp l)) (sym c.between.ensures.value)
    (sorted_in_range c.args.low.now (option_copied c.args.high) c.args.leaf.now.pairs c.between.ensures.rules.sorted)

pub merged-requires-clause-ordered : goal.merged-requires-clause-ordered
merged-requires-clause-ordered c = subst (λ (l : List (Bor WriteView)). AreFrom [] (pointed_to l)) (sym c.deref.ensures.value) c.in_ok-due.ensures.ordered

-- in the range what the writes leave is the history
only_there : (b : Bool) (found : Option ValueBytes) (f : Option ValueBytes → Option ValueBytes) → cond b (f (cond b found None)) (cond b found None) ≡ cond b (f (option_or found None)) None
only_there true found f = ap f (sym (or_none found))
only_there false found f = refl

pub returns : goal.returns
returns c =
    let low = c.args.low.now in
    let high = option_copied c.args.high in
    let pairs = c.args.leaf.now.pairs in
    let ws = pointed_to c.deref.result.now in
    both_ok c.merged.result
    (λ merged sorted values. record {
      sorted = sorted;
      values = λ q.
          let start = cond (is_in_range low high q) (find key_cmp q pairs) None in
          values q
          ∙ ap (λ (l : List Pair). merged_value l ws q) c.between.ensures.value
          ∙ ap (λ (v : Option ValueBytes). after_writes v (writes_to q ws)) (find_in_range low high q pairs)
          ∙ ap (λ (l : List (Bor WriteView)). after_writes start (writes_to q (pointed_to l))) c.deref.ensures.value
          ∙ c.in_ok-due.ensures.values q start
          ∙ only_there (is_in_range low high q) (find key_cmp q pairs) (λ v. history v (action_at (writes_to q (pointed_to c.args.writes.now))) c.args.stamp);
    })
    c.merged.ensures.sorted c.merged.ensures.values
