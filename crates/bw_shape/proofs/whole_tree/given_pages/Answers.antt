use Rattle.std.proofs.Common.{ℕ, List, sym, ap, subst}
use Rattle.std.specs.List.{Contains}
use Rattle.bw_shape.specs.Tidying.{DueView}
use Rattle.bw_shape.proofs.whole_tree.given_pages.Goals as goal

pub returns-clause-leaves : goal.returns-clause-leaves
returns-clause-leaves c = λ p leaf. subst (λ (l : List ℕ). Contains l p) (sym (ap (λ (d : DueView). d.pages) c.set_given.ensures)) (c.in_ok-due.ensures.leaves p leaf)
