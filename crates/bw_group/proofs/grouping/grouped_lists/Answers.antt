use Rattle.std.proofs.Common.{rules}
use Rattle.std.proofs.lemmas.List.Elements.{All-from_recursion, recursion_from_All}
use Rattle.std.proofs.lemmas.List.Sorted.{All-permutation, IsPermutation-trans, answers_always}
use Rattle.bw_group.specs.Points.{IsPointOf}
use Rattle.bw_group.proofs.SortedPoints.{entry_at_point, is_before, ranks, entries_permuted, same_of_keys, sorted_by_key}
use Rattle.bw_group.proofs.grouping.grouped_lists.Goals as goal

pub returns-clause-same : goal.returns-clause-same
returns-clause-same g c =
    let first = c.in_ok-points.field-0.points.items in
    let old = c.in_ok-points-2.points.items in
    let new = c.sort_unstable_by.new.self.items in
    same_of_keys c.args.ops.now first new c.in_ok-points.ensures.entries (IsPermutation-trans first old new c.in_ok-points-2.ensures c.sort_unstable_by.ensures.permutation)
    (c.sort_unstable_by.ensures.sorted (is_before entry_at_point) (ranks entry_at_point) (answers_always _ _ _ (λ f a r f' k. search rules)))

pub returns-clause-permuted : goal.returns-clause-permuted
returns-clause-permuted g c =
    let first = c.in_ok-points.field-0.points.items in
    let old = c.in_ok-points-2.points.items in
    let new = c.sort_unstable_by.new.self.items in
    entries_permuted c.args.ops.now first new c.in_ok-points.ensures.entries (IsPermutation-trans first old new c.in_ok-points-2.ensures c.sort_unstable_by.ensures.permutation)

pub returns-clause-sorted : goal.returns-clause-sorted
returns-clause-sorted g c = sorted_by_key c.sort_unstable_by.new.self.items (c.sort_unstable_by.ensures.sorted (is_before entry_at_point) (ranks entry_at_point) (answers_always _ _ _ (λ f a r f' k. search rules)))

pub returns-clause-verbs : goal.returns-clause-verbs
returns-clause-verbs g c =
    let is_point = IsPointOf c.args.ops.now in
    let first = c.in_ok-points.field-0.points.items in
    let old = c.in_ok-points-2.points.items in
    let new = c.sort_unstable_by.new.self.items in
    recursion_from_All is_point new
    (All-permutation is_point first new (IsPermutation-trans first old new c.in_ok-points-2.ensures c.sort_unstable_by.ensures.permutation) (All-from_recursion is_point first c.in_ok-points.ensures.verbs))
