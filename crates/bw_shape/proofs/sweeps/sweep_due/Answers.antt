use Rattle.bw_shape.proofs.SweepLemmas.{within_swept}
use Rattle.bw_shape.proofs.sweeps.sweep_due.Goals as goal

pub returns-clause-within : goal.returns-clause-within
returns-clause-within c =
    within_swept c.args.tree.now c.sweep.new.tree c.args.due.now.pages c.add.new.self.pages c.in_ok-pages.pages.items c.sweep.ensures.levels c.sweep.ensures.kept c.in_ok-pages.ensures c.know_records.ensures.there c.in_ok-add.ensures.ok
