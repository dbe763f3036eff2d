use Rattle.std.proofs.Common.{List, ℕ, ap, subst, sym}
use Rattle.std.specs.List.{Contains}
use Rattle.bw_shape.specs.Tidying.{AreAmong, DueView}
use Rattle.bw_shape.proofs.TidyLemmas.{kept_more}
use Rattle.bw_shape.proofs.due.Due.begin.Goals as goal
use Rattle.bw_shape.proofs.due.Due.begin.Goals.{then-not-is_empty+in_ok-begin_leaves, else-not-is_empty}

pub returns-clause-within : goal.returns-clause-within
returns-clause-within c =
    let due = c.args.self.now.pages in
    let was = λ (p : ℕ) (has : Contains due p). subst (λ (l : List ℕ). Contains l p) (sym (ap (λ (d : DueView). d.pages) c.self.view_is)) has in
    let among : AreAmong due c.if-not-is_empty.self.pages = elim c.if-not-is_empty.branch as (λ b. AreAmong due c.if-not-is_empty.self.pages) [
      | then-not-is_empty+in_ok-begin_leaves w ↦ subst (λ (d : DueView). AreAmong due d.pages) (sym w.self-is) (λ p has. w.begin_leaves.ensures.kept p (was p has))
      | else-not-is_empty w ↦ subst (λ (d : DueView). AreAmong due d.pages) (sym w.self-is) was
    ] in
    kept_more c.args.tree.now due c.self-2.inside.pages.items (λ p has. subst (λ (l : List ℕ). Contains l p) (sym (ap (λ (d : DueView). d.pages) c.self-2.view_is)) (among p has))
