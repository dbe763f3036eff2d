use Rattle.std.proofs.Common.{length, ap, arith}
use Rattle.bw_shape.proofs.TidyLemmas.{leaf_level}
use Rattle.bw_shape.proofs.visits.is_over.Goals as goal

pub returns-else-page-heads-clause-within : goal.returns-else-page-heads-clause-within
returns-else-page-heads-clause-within c = λ e leaf.
    let there = c.know_records.ensures.there c.args.page (leaf_level c.args.tree.now.levels c.args.page leaf) in
    absurd (omega (arith, there, ap length c.heads.ensures, c.page.view_is, c.if-page-heads.false))
