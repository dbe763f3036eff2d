use Rattle.bw_page.proofs.Cuts.{first_inner}
use Rattle.bw_page.proofs.InnerLemmas.{IsUpperInner, upper_inner_part}
use Rattle.bw_page.proofs.inner.Inner.cut.Goals as goal
use Rattle.bw_page.proofs.inner.Inner.cut.Goals.{In_ok-children}

half : (c : In_ok-children) → IsUpperInner c.args.self.now c.args.keep c.self.inside.level c.in_ok-bounds.bounds c.in_ok-children.children
half c =
    upper_inner_part c.args.self.now c.self.inside.level c.self.inside.bounds c.self.inside.children c.args.keep c.self.view_is c.requires.fewer c.in_ok-bounds.bounds c.in_ok-separator.field-0 c.in_ok-children.children c.in_ok-separator.ensures.ok c.in_ok-bounds.ensures c.in_ok-children.ensures.rest c.self.invariant

pub invariant_of-result : goal.invariant_of-result
invariant_of-result c = (half (goal.at.invariant_of-result c).In_ok-children).rules

pub invariant_of-self-2 : goal.invariant_of-self-2
invariant_of-self-2 c = first_inner c.self.inside.level c.self.inside.bounds c.args.keep c.self.inside.children _ c.in_ok-children.ensures.kept c.requires.some c.self.invariant

pub returns-clause-half : goal.returns-clause-half
returns-clause-half c = (half (goal.at.returns-clause-half c).In_ok-children).view
