use Rattle.bw_shape.proofs.SweepLemmas.{step_plain}
use Rattle.bw_shape.proofs.sweeps.consolidate_at.Goals as goal

pub returns-clause-ok : goal.returns-clause-ok
returns-clause-ok c =
    step_plain c.args.tree.now c.consolidate.new.tree c.args.place c.in_ok-consolidate.field-0 c.requires.none c.in_ok-consolidate.ensures.ok
