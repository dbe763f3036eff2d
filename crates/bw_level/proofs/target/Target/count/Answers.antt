use Rattle.std.proofs.Common.{◌∙◌, ℕ, List, ap, slice_range, subst}
use Rattle.bw_key.specs.Order.{KeyBytes}
use Rattle.bw_page.proofs.MergingLemmas.{rest_is}
use Rattle.bw_level.specs.Targets.{PartsChildren}
use Rattle.bw_level.proofs.target.Target.count.Goals as goal

pub returns-clause-parts : goal.returns-clause-parts
returns-clause-parts c =
    let all = c.args.children.now in
    let whole = ap (λ n. slice_range all 0 n) c.len.ensures.value ∙ rest_is 0 all in
    subst (λ (l : List (KeyBytes × ℕ)). PartsChildren c.args.self l c.count_in.result) whole c.count_in.ensures.parts
