use Rattle.std.proofs.Common.{◌∙◌, ap}
use Rattle.bw_batch.specs.Lens.{key_count}
use Rattle.bw_batch.specs.Settings.{limits_of}
use Rattle.bw_shape.proofs.KeptLeaves.{swept_leaves}
use Rattle.bw_batch.proofs.LeavesLemmas.{same_listed}
use Rattle.bw_batch.proofs.index.Index.make_room.Goals as goal

pub invariant_of-self : goal.invariant_of-self
invariant_of-self c = (
  c.in_ok-sweep_due.ensures.ok.staged,
  c.sweep_due.ensures.within (limits_of c.self.inside.options) c.self.invariant.1,
  ap key_count (c.in_ok-sweep_due.ensures.ok.contents _) ∙ c.self.invariant.2,
)

pub invariant_of-self-in_err-sweep_due : goal.invariant_of-self-in_err-sweep_due
invariant_of-self-in_err-sweep_due c = (
  c.in_err-sweep_due.ensures.err.staged,
  c.sweep_due.ensures.within (limits_of c.self.inside.options) c.self.invariant.1,
  ap key_count c.in_err-sweep_due.ensures.err.contents ∙ c.self.invariant.2,
)

pub returns-in_ok-sweep_due-clause-leaves : goal.returns-in_ok-sweep_due-clause-leaves
returns-in_ok-sweep_due-clause-leaves c =
    let swept = c.in_ok-sweep_due.ensures.ok in
    rw (← c.self.view_is) (same_listed c.self.inside.tree c.sweep_due.new.tree (swept_leaves c.self.inside.tree c.sweep_due.new.tree swept.levels swept.bounds swept.freed))

pub returns-in_err-sweep_due-clause-leaves : goal.returns-in_err-sweep_due-clause-leaves
returns-in_err-sweep_due-clause-leaves c =
    let held = c.in_err-sweep_due.ensures.err in
    rw (← c.self.view_is) (same_listed c.self.inside.tree c.sweep_due.new.tree (swept_leaves c.self.inside.tree c.sweep_due.new.tree held.levels held.bounds held.freed))
