use Rattle.std.proofs.Common.{arith, ap, length}
use Rattle.bw_shape.proofs.TidyLemmas.{leaf_level}
use Rattle.bw_shape_tests.proofs.tests.tidying.are_within_but.Goals as goal

pub returns : goal.returns
returns c = λ e p leaf.
    let there = c.know_words.ensures.there p (leaf_level c.args.tree.now.levels p leaf) in
    c.loop-page.invariant p (omega (arith, there, ap length c.heads-page-end.ensures, c.loop-page-test.false)) leaf
