use Rattle.std.proofs.Common.{◌≡◌}
use Rattle.std.specs.Option.{option_copied}
use Rattle.bw_model.specs.Contents.{pairs_of_range}
use Rattle.bw_look.specs.View.{contents_at}
use Rattle.bw_scan.specs.Cursors.{HasRead}
use Rattle.bw_scan.proofs.ScanLemmas.{leaves_behind}
use Rattle.bw_scan.proofs.scans.Scans.scan_on.Given as goal

abbrev pub invariant-loop-read : goal.invariant-loop-read
invariant-loop-read l = record {
  same : l.self.tree ≡ l.fn.self.tree;
  has_read : HasRead (pairs_of_range (contents_at l.fn.self.tree l.stamp) l.fn.from (option_copied l.to)) l.most l.read l.fn.from l.at;
}

abbrev pub decreases-loop-read : goal.decreases-loop-read
decreases-loop-read l = leaves_behind l.fn.self.tree.slots l.fn.self.tree.levels l.at
