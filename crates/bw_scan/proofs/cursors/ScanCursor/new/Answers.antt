use Rattle.std.specs.Option.{option_copied}
use Rattle.bw_scan.proofs.CursorLemmas.{begun}
use Rattle.bw_scan.proofs.cursors.ScanCursor.new.Goals as goal

pub invariant_of-result : goal.invariant_of-result
invariant_of-result c = begun c.args.tree.now c.args.stamp c.args.op.now (option_copied c.first_key.result) c.new.result c.requires c.first_key.ensures c.new.ensures
