use Rattle.std.proofs.Common.{◌<◌, length, rules, take, subst}
use Rattle.bw_tidy.specs.Findings.{IsListed}
use Rattle.bw_tidy.proofs.PutLeafLemmas.{all_next, still_listed}
use Rattle.bw_tidy.proofs.leaf_workers.list_due.Goals as goal
use native.Mathlib.Numerals.{unary_clauses}

pub loop-finding-preserved : goal.loop-finding-preserved
loop-finding-preserved c =
    let within : c.loop-finding.finding-index < length c.args.findings.now = search rules in
    let added = c.add_due.new in
    let is : IsListed added.pages.items added.begun.items c.finding-item.result = c.in_ok-add_due.ensures.due in
    record {
      listed = simp unary_clauses (all_next (IsListed added.pages.items added.begun.items) c.args.findings.now c.loop-finding.finding-index c.finding-item.result within
          (still_listed c.loop-finding.pages.items c.loop-finding.begun.items added.pages.items added.begun.items (take c.loop-finding.finding-index c.args.findings.now) c.add_due.ensures.kept c.add_due.ensures.begun c.loop-finding.invariant.listed)
          (subst (IsListed added.pages.items added.begun.items) c.finding-item.is is));
      among = c.add_due.ensures.among c.loop-finding.invariant.among;
    }
