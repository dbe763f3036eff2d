use Rattle.std.proofs.Common.{map, sym, subst, rules, ◌∙◌, ap}
use Rattle.std.specs.List.Sorted.{IsPermutation}
use Rattle.std.proofs.lemmas.List.Sorted.{answers_always, IsPermutation-map}
use Rattle.bw_delta.specs.SortedWrites.{AreSortedByKey, HaveRisingStamps}
use Rattle.bw_delta.proofs.SortedWrites.{is_before, ranks, sorted_by_key, stamps_rising, write_of}
use Rattle.bw_delta.proofs.sorted_writes.in_key_order.Goals as goal

pub returns-clause-same : goal.returns-clause-same
returns-clause-same c =
    let old = c.args.keyed.items in
    let new = c.sort_unstable_by.new.self.items in
    subst (IsPermutation (map write_of old)) (sym (c.in_ok-grouped.ensures ∙ ap (map write_of) c.deref.ensures.value))
    (IsPermutation-map write_of old new c.sort_unstable_by.ensures.permutation)

pub returns-clause-grouped : goal.returns-clause-grouped
returns-clause-grouped c =
    subst AreSortedByKey (sym (c.in_ok-grouped.ensures ∙ ap (map write_of) c.deref.ensures.value))
    (sorted_by_key c.sort_unstable_by.new.self.items (c.sort_unstable_by.ensures.sorted is_before ranks (answers_always _ _ _ (λ f a r f' k. search rules))))

pub returns-clause-rising : goal.returns-clause-rising
returns-clause-rising c =
    let old = c.args.keyed.items in
    let new = c.sort_unstable_by.new.self.items in
    subst HaveRisingStamps (sym (c.in_ok-grouped.ensures ∙ ap (map write_of) c.deref.ensures.value))
    (stamps_rising (map write_of old) new c.requires (IsPermutation-map write_of old new c.sort_unstable_by.ensures.permutation)
    (c.sort_unstable_by.ensures.sorted is_before ranks (answers_always _ _ _ (λ f a r f' k. search rules))))
