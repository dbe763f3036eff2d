use Rattle.bw_tidy.proofs.FindingsLemmas.{fitting}
use Rattle.bw_tidy.proofs.leaf_findings.Findings.add.Goals as goal

pub returns-then-is_fitting : goal.returns-then-is_fitting
returns-then-is_fitting c = λ tree stamp is.
    c.add_fitting.ensures.found tree stamp (fitting tree c.args.self.now.limits stamp c.args.finding is (c.is_fitting.ensures.due c.if-is_fitting.true) (c.is_fitting.ensures.leaf c.if-is_fitting.true))
