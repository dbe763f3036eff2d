use Rattle.bw_page.proofs.LeafLemmas.{IsUpperPart, upper_part}
use Rattle.bw_page.proofs.leaf.Leaf.upper_half.Goals as goal
use Rattle.bw_page.proofs.leaf.Leaf.upper_half.Goals.{In_ok-copy_from}

half : (c : In_ok-copy_from) → IsUpperPart c.args.self.now c.args.keep c.in_ok-with_low.field-0 c.in_ok-copy_from.field-0
half c =
    upper_part c.args.self.now c.self.inside.bounds c.self.inside.pairs c.args.keep c.self.view_is c.requires c.in_ok-with_low.field-0 c.in_ok-key_at.field-0 c.in_ok-copy_from.field-0 c.in_ok-key_at.ensures.ok c.in_ok-with_low.ensures c.in_ok-copy_from.ensures c.self.invariant

pub invariant_of-result : goal.invariant_of-result
invariant_of-result c = (half (goal.at.invariant_of-result c).In_ok-copy_from).rules

pub returns-clause-value : goal.returns-clause-value
returns-clause-value c = (half (goal.at.returns-clause-value c).In_ok-copy_from).view

pub returns-clause-kept : goal.returns-clause-kept
returns-clause-kept c = (half (goal.at.returns-clause-kept c).In_ok-copy_from).begins
