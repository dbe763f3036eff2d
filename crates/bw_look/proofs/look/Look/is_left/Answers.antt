use Rattle.std.proofs.Common.{ℕ, Some, ◌≡◌, Decides, subst}
use Rattle.bw_level.specs.Slots.{left_of}
use Rattle.bw_look.specs.View.{TreeView}
use Rattle.bw_look.proofs.LeftLemmas.{decides_left}
use Rattle.bw_look.proofs.look.Look.is_left.Goals as goal

pub returns : goal.returns
returns c =
    subst (λ (v : TreeView). Decides c.is_left.result ((q : ℕ) × (left_of v.slots q ≡ Some c.args.page))) c.self.view_is
    (decides_left c.self.inside.heads.now.items c.self.inside.chains.now.bases c.self.inside.chains.now.records c.self.invariant.now.own c.args.page c.is_left.result c.is_left.ensures)
