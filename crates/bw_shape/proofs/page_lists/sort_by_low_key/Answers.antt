use Rattle.std.proofs.lemmas.List.Sorted.{Contains-permutation, IsPermutation-sym}
use Rattle.bw_shape.proofs.page_lists.sort_by_low_key.Goals as goal

pub returns-clause-kept : goal.returns-clause-kept
returns-clause-kept c = λ p has. Contains-permutation _ _ p c.sort_unstable_by.ensures.permutation has

pub returns-clause-only : goal.returns-clause-only
returns-clause-only c = λ p has. Contains-permutation _ _ p (IsPermutation-sym _ _ c.sort_unstable_by.ensures.permutation) has
