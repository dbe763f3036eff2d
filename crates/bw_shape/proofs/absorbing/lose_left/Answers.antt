use Rattle.bw_shape.proofs.AbsorbLemmas.{step_within}
use Rattle.bw_shape.proofs.absorbing.lose_left.Goals as goal

pub returns-then-level-eq0-clause-within : goal.returns-then-level-eq0-clause-within
returns-then-level-eq0-clause-within c =
    step_within c.args.limits.now c.args.tree.now c.consolidate.new.tree c.args.tree.now.root c.args.left c.in_ok-consolidate.field-0 c.know_levels.ensures.lawful c.requires.room c.in_ok-consolidate.ensures.ok

pub returns-else-eq-clause-within : goal.returns-else-eq-clause-within
returns-else-eq-clause-within c =
    step_within c.args.limits.now c.args.tree.now c.consolidate.new.tree c.args.tree.now.root c.args.left c.in_ok-consolidate.field-0 c.know_levels.ensures.lawful c.requires.room c.in_ok-consolidate.ensures.ok
