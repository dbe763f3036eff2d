use Rattle.std.proofs.Common.{take}
use Rattle.bw_shape.specs.Tidying.{AreAmong}
use Rattle.bw_tidy.specs.Findings.{AreListed}
use Rattle.bw_tidy.proofs.leaf_workers.list_due.Given as goal

abbrev pub invariant-loop-finding : goal.invariant-loop-finding
invariant-loop-finding l = record {
  listed : AreListed l.pages.items l.begun.items (take l.finding-index l.findings);
  among : AreAmong l.begun.items l.pages.items;
}
