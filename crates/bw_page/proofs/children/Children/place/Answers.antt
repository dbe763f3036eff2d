use Rattle.std.proofs.Common.{◌∙◌, ℕ, List, ap, arith, slice_range, subst}
use Rattle.bw_key.specs.Order.{KeyBytes}
use Rattle.bw_packed.specs.Search.{EndsAt}
use Rattle.bw_page.proofs.MergingLemmas.{rest_is}
use Rattle.bw_page.proofs.Search.{is_before, parted, parts_at}
use Rattle.bw_page.proofs.children.Children.place.Goals as goal

pub returns-clause-value : goal.returns-clause-value
returns-clause-value c =
    let key = c.args.key.now in
    let all = c.args.self.now in
    let whole = ap (λ n. slice_range all 0 n) c.len.ensures.value ∙ rest_is 0 all in
    let ends = subst (λ (l : List (KeyBytes × ℕ)). EndsAt (is_before key) l c.place_in.result) whole c.place_in.ensures.parts in
    parts_at key all c.place_in.result c.requires (omega (arith, c.place_in.ensures.bound, c.len.ensures.value)) (ends (parted key all c.requires))
