use Rattle.std.proofs.Common.{List, ℕ, subst}
use Rattle.bw_tidy.specs.Findings.{AreLeft}
use Rattle.bw_tidy.proofs.leaf_findings.Findings.left_of.Goals as goal

pub returns-in-Ok : goal.returns-in-Ok
returns-in-Ok c = subst (λ (l : List ℕ). AreLeft l c.args.self.now.fitting.items c.in-Ok.left.items) c.deref.ensures.value c.in-Ok.ensures
