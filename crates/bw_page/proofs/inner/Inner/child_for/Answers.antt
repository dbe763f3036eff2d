use Rattle.std.proofs.Common.{◌∙◌, ◌≤◌, [], ℕ, List, ap, arith, length, slice_range, subst, sym}
use Rattle.bw_key.specs.Order.{KeyBytes}
use Rattle.bw_packed.specs.Search.{EndsAt}
use Rattle.bw_page.specs.Inners.{InnerView, IsLastUpto, IsUpto}
use Rattle.bw_page.proofs.MergingLemmas.{rest_is}
use Rattle.bw_page.proofs.Separators.{EndsUpto, first_there, isnt_above, last_there, parted_upto, some_upto}
use Rattle.bw_page.proofs.inner.Inner.child_for.Goals as goal
use Rattle.bw_page.proofs.inner.Inner.child_for.Goals.{After-place_behind-count}

-- so many separators aren't above the key
counted : (c : After-place_behind-count) → EndsUpto c.args.key.now c.self.inside.children c.place_behind-count.result
counted c =
    let key = c.args.key.now in
    let all = c.self.inside.children in
    let whole = ap (λ n. slice_range all 0 n) c.len.ensures.value ∙ rest_is 0 all in
    subst (λ (l : List (KeyBytes × ℕ)). EndsAt (isnt_above key) l c.place_behind-count.result) whole c.place_behind-count.ensures.parts (parted_upto key all c.self.invariant.page.sorted)

some : (c : After-place_behind-count) → 1 ≤ c.place_behind-count.result
some c =
    let key = c.args.key.now in
    let all = c.self.inside.children in
    let first = first_there c.self.inside.bounds.low all c.self.invariant.begins in
    some_upto key all c.place_behind-count.result first.0 (subst (λ (k : KeyBytes). IsUpto k key) (sym (first.1 ∙ ap (λ (v : InnerView). v.low) c.self.view_is)) c.requires) (counted c)

pub overflow_sub-count : goal.overflow_sub-count
overflow_sub-count c = some (goal.at.overflow_sub-count c).After-place_behind-count

pub returns : goal.returns
returns c =
    let key = c.args.key.now in
    let all = c.self.inside.children in
    let count = c.place_behind-count.result in
    let there = (goal.at.returns c).After-place_behind-count in
    let within : count ≤ length all = omega (arith, c.place_behind-count.ensures.bound, c.len.ensures.value) in
    let last = last_there key all count ([], 0) c.self.invariant.page.sorted (some there) within (counted there) in
    subst (λ (v : InnerView). IsLastUpto key v.children c.child.result) c.self.view_is
    (subst (λ (p : ℕ). IsLastUpto key all p) (sym (c.child.ensures ([], 0))) last)
