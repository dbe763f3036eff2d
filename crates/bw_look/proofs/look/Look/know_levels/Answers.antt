use Rattle.std.proofs.Common.{subst}
use Rattle.bw_delta.specs.History.{HasDistinctStamps}
use Rattle.bw_level.specs.Levels.{AreLevels, row}
use Rattle.bw_look.specs.View.{TreeView}
use Rattle.bw_level.specs.Reading.{row_writes}
use Rattle.bw_look.proofs.look.Look.know_levels.Goals as goal

pub returns-clause-lawful : goal.returns-clause-lawful
returns-clause-lawful c = subst (λ (v : TreeView). AreLevels v.slots v.root v.levels) c.self.view_is c.self.invariant.now.lawful

pub returns-clause-distinct : goal.returns-clause-distinct
returns-clause-distinct c = subst (λ (v : TreeView). HasDistinctStamps (row_writes v.slots (row v.levels 0))) c.self.view_is c.self.invariant.now.distinct
