use Rattle.bw_page.proofs.Cuts.{same_first}
use Rattle.bw_page.proofs.LeafLemmas.{IsUpperPart, upper_part}
use Rattle.bw_page.proofs.leaf.Leaf.cut.Goals as goal
use Rattle.bw_page.proofs.leaf.Leaf.cut.Goals.{In_ok-pairs}

half : (c : In_ok-pairs) → IsUpperPart c.args.self.now c.args.keep c.in_ok-bounds.bounds c.in_ok-pairs.pairs
half c =
    upper_part c.args.self.now c.self.inside.bounds c.self.inside.pairs c.args.keep c.self.view_is c.requires c.in_ok-bounds.bounds c.in_ok-key_at.field-0 c.in_ok-pairs.pairs c.in_ok-key_at.ensures.ok c.in_ok-bounds.ensures c.in_ok-pairs.ensures.rest c.self.invariant

pub invariant_of-result : goal.invariant_of-result
invariant_of-result c = (half (goal.at.invariant_of-result c).In_ok-pairs).rules

pub invariant_of-self-2 : goal.invariant_of-self-2
invariant_of-self-2 c = same_first c.self.inside.bounds c.args.keep c.self.inside.pairs _ c.in_ok-pairs.ensures.kept c.self.invariant

pub returns-clause-half : goal.returns-clause-half
returns-clause-half c = (half (goal.at.returns-clause-half c).In_ok-pairs).view
