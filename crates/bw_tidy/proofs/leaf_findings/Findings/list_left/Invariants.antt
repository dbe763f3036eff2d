use Rattle.std.proofs.Common.{take}
use Rattle.bw_tidy.specs.Findings.{AreLeft}
use Rattle.bw_tidy.proofs.leaf_findings.Findings.list_left.Given as goal

abbrev pub invariant-loop-page : goal.invariant-loop-page
invariant-loop-page l = AreLeft (take l.page-index l.pages) l.self.fitting.items l.left.items
