use Rattle.bw_tidy.proofs.leaf_findings.Findings.look_at.Goals as goal

pub returns-then-self : goal.returns-then-self
returns-then-self c = c.add.ensures c.args.tree.now c.args.stamp c.inspect-finding.ensures.found
