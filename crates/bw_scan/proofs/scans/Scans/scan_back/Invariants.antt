use Rattle.std.proofs.Common.{◌≡◌}
use Rattle.std.specs.Option.{option_copied}
use Rattle.bw_model.specs.Contents.{pairs_of_range}
use Rattle.bw_look.specs.View.{contents_at}
use Rattle.bw_scan.proofs.BackLemmas.{leaves_before}
use Rattle.bw_scan.proofs.ReplayLemmas.{HasReadBack}
use Rattle.bw_scan.proofs.scans.Scans.scan_back.Given as goal

abbrev pub invariant-loop-read : goal.invariant-loop-read
invariant-loop-read l = record {
  same : l.self.tree ≡ l.fn.self.tree;
  has_read : HasReadBack (pairs_of_range (contents_at l.fn.self.tree l.stamp) l.from (option_copied l.fn.to)) l.most l.read l.from (option_copied l.fn.to) (option_copied l.end);
}

abbrev pub decreases-loop-read : goal.decreases-loop-read
decreases-loop-read l = leaves_before l.fn.self.tree.slots l.fn.self.tree.levels (option_copied l.end)
