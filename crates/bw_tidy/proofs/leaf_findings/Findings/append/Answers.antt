use Rattle.std.proofs.Common.{None, sym, subst, ◌∙◌}
use Rattle.std.specs.List.{AllByRecursion}
use Rattle.bw_tidy.specs.Findings.{FitsAt, IsFinding}
use Rattle.bw_tidy.proofs.FindingsLemmas.{go_on}
use Rattle.bw_tidy.proofs.leaf_findings.Findings.append.Goals as goal

pub returns-clause-found : goal.returns-clause-found
returns-clause-found c = λ tree stamp are.
    let more = c.args.more in
    let pages = c.add_all_fitting.ensures.found tree stamp (subst (λ l. AllByRecursion (λ p. FitsAt tree l p None) more.fitting.items) c.requires are.fitting) in
    go_on tree stamp c.args.self.now c.add_all_fitting.new.self c.add_all_due.new.self pages
    (c.add_all_due.ensures.found tree stamp (subst (λ l. AllByRecursion (IsFinding tree l stamp) more.due.items) (c.requires ∙ sym pages.limits) are.due))
