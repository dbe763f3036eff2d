use Rattle.std.proofs.Common.{subst}
use Rattle.bw_level.specs.Entries.{AreExact}
use Rattle.bw_look.specs.View.{TreeView}
use Rattle.bw_look.proofs.look.Look.know_entries.Goals as goal

pub returns : goal.returns
returns c = subst (λ (v : TreeView). AreExact v.slots v.levels) c.self.view_is c.self.invariant.now.exact
