use Rattle.bw_page.proofs.KeyLemmas.{below_self}
use Rattle.bw_scan.proofs.scans.Scans.skip_back.Goals as goal

pub returns-then-has_found-clause-before : goal.returns-then-has_found-clause-before
returns-then-has_found-clause-before c = below_self c.args.low.now

pub returns-in_default-clause-before : goal.returns-in_default-clause-before
returns-in_default-clause-before c = below_self c.args.low.now
