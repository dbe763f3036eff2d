use Rattle.std.proofs.Common.{Some, ap, ◌∙◌, ◌-◌, refl}
use Rattle.bw_look.proofs.StagedLemmas.{staged_as}
use Rattle.bw_look.proofs.look.Look.staged.Goals as goal

pub returns : goal.returns
returns c = staged_as c.self.inside.heads.now.items c.self.inside.chains.now.bases c.self.inside.chains.now.records c.self.inside.root c.self.inside.next c.self.inside.staged.now _ _ _ c.self.invariant c.self.view_is (ap Some c.stage.view_is ∙ c.in_ok-stage.ensures.value) refl refl (ap (λ n. n - c.stage.inside.records) c.len.ensures)
