use Rattle.std.proofs.Common.{subst, arith}
use Rattle.std.specs.Option.{option_copied}
use Rattle.bw_delta.specs.History.{HasDistinctStamps}
use Rattle.bw_level.specs.Levels.{AreLevels, row}
use Rattle.bw_level.specs.Reading.{row_writes}
use Rattle.bw_scan.specs.Replaying.{ScansView}
use Rattle.bw_scan.proofs.CursorLemmas.{goes_on, has_enough}
use Rattle.bw_scan.proofs.cursors.LeafCursor.read.Goals as goal

abbrev Lawful : ScansView → Type 0
Lawful v = AreLevels v.tree.slots v.tree.root v.tree.levels

abbrev Distinct : ScansView → Type 0
Distinct v = HasDistinctStamps (row_writes v.tree.slots (row v.tree.levels 0))

pub returns-then-len-most-clause-read : goal.returns-then-len-most-clause-read
returns-then-len-most-clause-read c =
    let tree = c.args.self.now.tree in
    let lawful = subst Lawful c.self.view_is c.know_levels.ensures.lawful in
    let distinct = subst Distinct c.self.view_is c.know_levels.ensures.distinct in
    has_enough tree lawful distinct c.args.stamp c.args.most c.args.at.now (option_copied c.args.to) c.args.read.now c.read_pairs.new.read c.in_ok-end.end c.in_ok-end.ensures.read (omega (arith, c.if-len-most.true, c.len.ensures))

pub returns-clause-read : goal.returns-clause-read
returns-clause-read c =
    let tree = c.args.self.now.tree in
    let lawful = subst Lawful c.self.view_is c.know_levels.ensures.lawful in
    let distinct = subst Distinct c.self.view_is c.know_levels.ensures.distinct in
    goes_on tree lawful distinct c.args.stamp c.args.most c.args.at.now (option_copied c.args.to) c.args.read.now c.read_pairs.new.read c.in_ok-end.end c.in_ok-end.ensures.read
