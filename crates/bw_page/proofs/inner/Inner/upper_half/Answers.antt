use Rattle.std.proofs.Common.{◌∙◌, ap, slice_range}
use Rattle.bw_page.proofs.InnerLemmas.{IsUpperInner, upper_inner_part}
use Rattle.bw_page.proofs.MergingLemmas.{rest_is}
use Rattle.bw_page.proofs.inner.Inner.upper_half.Goals as goal
use Rattle.bw_page.proofs.inner.Inner.upper_half.Goals.{In_ok-copy}

half : (c : In_ok-copy) → IsUpperInner c.args.self.now c.args.keep c.self.inside.level c.in_ok-with_low.field-0 c.in_ok-copy.field-0
half c =
    let children = c.self.inside.children in
    let keep = c.args.keep in
    let rest = c.in_ok-copy.ensures ∙ ap (λ n. slice_range children keep n) c.len.ensures.value ∙ rest_is keep children in
    upper_inner_part c.args.self.now c.self.inside.level c.self.inside.bounds children keep c.self.view_is c.requires c.in_ok-with_low.field-0 c.in_ok-separator.field-0 c.in_ok-copy.field-0 c.in_ok-separator.ensures.ok c.in_ok-with_low.ensures rest c.self.invariant

pub invariant_of-result : goal.invariant_of-result
invariant_of-result c = (half (goal.at.invariant_of-result c).In_ok-copy).rules

pub returns : goal.returns
returns c = (half (goal.at.returns c).In_ok-copy).view
