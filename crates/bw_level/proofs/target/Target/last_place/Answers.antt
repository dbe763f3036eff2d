use Rattle.std.proofs.Common.{ℕ, ◌≤◌, length, List, arith, subst}
use Rattle.bw_key.specs.Order.{KeyBytes}
use Rattle.bw_level.specs.Targets.{PartsChildren}
use Rattle.bw_level.proofs.TargetLemmas.{entry_there, some_there}
use Rattle.bw_level.proofs.target.Target.last_place.Goals as goal

pub overflow_sub-result : goal.overflow_sub-result
overflow_sub-result c =
    let same = c.children-children.ensures.value in
    some_there c.args.self c.args.inner.now.low c.args.inner.now.children c.count.result c.children-children.ensures.rules.begins c.requires
    (subst (λ (l : List (KeyBytes × ℕ)). PartsChildren c.args.self l c.count.result) same c.count.ensures.parts)
    (subst (λ (l : List (KeyBytes × ℕ)). c.count.result ≤ length l) same c.count.ensures.bound)

pub returns-clause-within : goal.returns-clause-within
returns-clause-within c =
    let same = c.children-children.ensures.value in
    let many = subst (λ (l : List (KeyBytes × ℕ)). c.count.result ≤ length l) same c.count.ensures.bound in
    let some = some_there c.args.self c.args.inner.now.low c.args.inner.now.children c.count.result c.children-children.ensures.rules.begins c.requires
    (subst (λ (l : List (KeyBytes × ℕ)). PartsChildren c.args.self l c.count.result) same c.count.ensures.parts) many in
    omega (arith, some, many)

pub returns-clause-entry : goal.returns-clause-entry
returns-clause-entry c d =
    let inner = c.args.inner.now in
    let same = c.children-children.ensures.value in
    entry_there c.args.self inner.level inner.low inner.high inner.side inner.children c.count.result d c.children-children.ensures.rules c.requires
    (subst (λ (l : List (KeyBytes × ℕ)). PartsChildren c.args.self l c.count.result) same c.count.ensures.parts)
    (subst (λ (l : List (KeyBytes × ℕ)). c.count.result ≤ length l) same c.count.ensures.bound)
