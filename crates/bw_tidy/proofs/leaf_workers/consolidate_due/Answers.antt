use Rattle.std.proofs.Common.{◌≡◌, ◌++◌, length, take, drop, map, rules, sym, ap, ◌∙◌, subst}
use Rattle.std.specs.List.{AllByRecursion}
use Rattle.std.proofs.Math.Seq.{take-append_seam}
use Rattle.bw_tidy.specs.Findings.{IsFinding}
use Rattle.bw_tidy.specs.declared.findings.Finding.{Finding}
use Rattle.bw_tidy.proofs.leaf_workers.consolidate_due.Goals as goal

pub returns-clause-within : goal.returns-clause-within
returns-clause-within g c =
    let findings = c.inspect_all.new.findings in
    let rest = drop (length findings) c.in_ok-findings.findings.items in
    let of_due : map (λ finding. finding.page) findings ≡ c.args.due.now.pages = search rules in
    let len : c.in_ok-findings.findings.len ≡ length findings = search rules in
    let whole : take c.in_ok-findings.findings.len (findings ++ rest) ≡ findings = ap (λ n. take n (findings ++ rest)) len ∙ take-append_seam findings rest in
    c.put_all.ensures.within (ap (map (λ (finding : Finding). finding.page)) whole ∙ of_due) c.args.limits.now
    (subst (AllByRecursion (IsFinding c.args.tree.now c.args.limits.now c.args.tree.now.next)) (sym whole) c.inspect_all.ensures.found) c.requires.within
