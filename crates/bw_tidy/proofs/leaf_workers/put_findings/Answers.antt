use Rattle.std.proofs.Common.{◌∙◌}
use Rattle.bw_tidy.proofs.FindingsLemmas.{leaves_of}
use Rattle.bw_tidy.proofs.leaf_workers.put_findings.Goals as goal

pub put_all-requires-clause-leaves : goal.put_all-requires-clause-leaves
put_all-requires-clause-leaves c = leaves_of c.args.tree.now c.args.findings.limits c.args.tree.now.next c.in_ok-findings.findings.items (c.in_ok-findings.ensures.found c.args.tree.now c.args.tree.now.next c.requires.found)

pub returns-clause-within : goal.returns-clause-within
returns-clause-within c = c.put_all.ensures.within (c.in_ok-findings.ensures.pages ∙ c.pages-3.ensures) c.args.findings.limits (c.in_ok-findings.ensures.found c.args.tree.now c.args.tree.now.next c.requires.found)
