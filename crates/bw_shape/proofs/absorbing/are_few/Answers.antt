use Rattle.std.proofs.Common.{arith}
use Rattle.std.proofs.lemmas.Bool.{leb-true}
use Rattle.bw_shape.proofs.AbsorbLemmas.{few_together}
use Rattle.bw_shape.proofs.absorbing.are_few.Goals as goal

pub returns : goal.returns
returns c few q left =
    let tree = c.args.tree.now in
    few_together c.args.limits.now tree tree.root c.args.page c.in-Some.left q c.know_levels.ensures.lawful c.in-Some.ensures
    (omega (arith, leb-true c.saturating_add-both.result c.page_max.result few, c.saturating_add-both.ensures, c.page_max.ensures.value, c.page_max.ensures.least.small_page, c.entries.ensures, c.entries-2.ensures)) left
