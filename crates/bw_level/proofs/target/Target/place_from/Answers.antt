use Rattle.std.proofs.Common.{ℕ, List, length, ◌≤◌, subst}
use Rattle.bw_key.specs.Order.{KeyBytes}
use Rattle.bw_level.specs.Targets.{PartsChildren}
use Rattle.bw_level.proofs.GallopLemmas.{place_there}
use Rattle.bw_level.proofs.target.Target.place_from.Goals as goal

pub returns : goal.returns
returns c =
    let same = c.children.ensures.value in
    let count = c.count_from.result in
    place_there c.args.self c.args.inner.now.children count
    (subst (λ (l : List (KeyBytes × ℕ)). PartsChildren c.args.self l count) same c.count_from.ensures.parts)
    (subst (λ (l : List (KeyBytes × ℕ)). count ≤ length l) same c.count_from.ensures.bound) c.checked_sub.result c.checked_sub.ensures
