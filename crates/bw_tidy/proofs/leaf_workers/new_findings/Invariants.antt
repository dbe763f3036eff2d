use Rattle.std.proofs.Common.{◌≡◌, map, take}
use Rattle.bw_tidy.proofs.leaf_workers.new_findings.Given as goal

abbrev pub invariant-loop-page : goal.invariant-loop-page
invariant-loop-page l = map (λ finding. finding.page) l.findings.items ≡ take l.page-index l.pages
