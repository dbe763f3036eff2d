use Rattle.std.proofs.Common.{◌≡◌, ◌≤◌, ◌+◌, ℕ, List, length, sym, ap, take, subst, ◌∙◌, arith}
use Rattle.std.specs.List.{list_any}
use Rattle.bw_model.specs.Model.{contents_after, replies_of}
use Rattle.bw_model.specs.declared.operations.Op.{Op}
use Rattle.bw_look.specs.View.{TreeView, contents_with}
use Rattle.bw_group.specs.Points.{is_delete}
use Rattle.bw_batch.specs.Settings.{limits_of, most_lost}
use Rattle.bw_shape.specs.Limits.{AreWithinBut}
use Rattle.bw_tidy.specs.Findings.{AreFindings}
use Rattle.bw_shape.proofs.TidyLemmas.{holds_same}
use Rattle.bw_batch.proofs.BatchLemmas.{accepted_as, accepted_still, first_read, reads_on, staged_count}
use Rattle.bw_batch.proofs.DueLemmas.{findings_accepted, within_batch}
use Rattle.bw_batch.proofs.LeavesLemmas.{batch_leaves}
use Rattle.bw_batch.proofs.batch.run_batch.Goals as goal

pub answer_staged-requires-clause-reads : goal.answer_staged-requires-clause-reads
answer_staged-requires-clause-reads g c κs within =
    subst (λ (l : List Op). (i : ℕ) → contents_with c.stage.new.tree (c.stage.new.tree.next + i) ≡ contents_after (take i l) (contents_with c.stage.new.tree c.stage.new.tree.next))
    (sym c.in_ok-batch.ensures) (reads_on c.args.tree.now c.stage.new.tree c.args.ops.now c.in_ok-stage.ensures.ok c.in_ok-stage.ensures.reads)

pub returns-in-Ok-clause-replies : goal.returns-in-Ok-clause-replies
returns-in-Ok-clause-replies g c =
    c.in-Ok.ensures.replies
    ∙ ap (λ (l : List Op). replies_of l (contents_with c.stage.new.tree c.stage.new.tree.next)) c.in_ok-batch.ensures
    ∙ ap (replies_of c.args.ops.now) (first_read c.args.tree.now c.stage.new.tree c.args.ops.now c.in_ok-stage.ensures.ok c.in_ok-stage.ensures.reads)

pub returns-in-Ok-clause-deletes : goal.returns-in-Ok-clause-deletes
returns-in-Ok-clause-deletes g c = c.in-Ok.ensures.deletes ∙ ap (list_any is_delete) c.in_ok-batch.ensures

pub returns-in-Ok-clause-lost : goal.returns-in-Ok-clause-lost
returns-in-Ok-clause-lost g c = subst (λ n. c.in-Ok.answered.lost ≤ most_lost c.args.options.now n) (staged_count c.args.tree.now c.stage.new.tree c.args.ops.now c.in_ok-stage.ensures.ok) c.in-Ok.ensures.lost

pub put_findings-requires-clause-none : goal.put_findings-requires-clause-none
put_findings-requires-clause-none g c =
    (accepted_as c.args.tree.now c.stage.new.tree c.answer_staged.new.tree c.accept.new.self c.args.ops.now c.in_ok-stage.ensures.ok c.in_ok-stage.ensures.reads c.in-Ok.ensures.next
    c.in-Ok.ensures.recorded c.in-Ok.ensures.contents c.in-Ok.ensures.adopted c.in-Ok.ensures.count c.accept.ensures).none

pub put_findings-requires-clause-found : goal.put_findings-requires-clause-found
put_findings-requires-clause-found g c =
    let now = c.answer_staged.new.tree in
    let findings = c.answer_staged.new.findings in
    let stamp = c.stage.new.tree.next + length c.in_ok-batch.batch.ops in
    subst (λ n. AreFindings c.accept.new.self n findings)
    (omega (
      arith,
      (accepted_as c.args.tree.now c.stage.new.tree c.answer_staged.new.tree c.accept.new.self c.args.ops.now c.in_ok-stage.ensures.ok c.in_ok-stage.ensures.reads c.in-Ok.ensures.next
          c.in-Ok.ensures.recorded c.in-Ok.ensures.contents c.in-Ok.ensures.adopted c.in-Ok.ensures.count c.accept.ensures).next,
      ap (λ (t : TreeView). t.next) c.in_ok-stage.ensures.ok.is,
      ap (λ (l : List Op). length l) c.in_ok-batch.ensures,
    ))
    (findings_accepted now c.accept.new.self stamp findings c.accept.ensures (c.in-Ok.ensures.found.found (c.new-findings.ensures.found now stamp)))

pub returns-in-Ok-clause-contents : goal.returns-in-Ok-clause-contents
returns-in-Ok-clause-contents g c =
    (accepted_still c.args.tree.now c.accept.new.self c.put_findings.new.tree c.args.ops.now
    (accepted_as c.args.tree.now c.stage.new.tree c.answer_staged.new.tree c.accept.new.self c.args.ops.now c.in_ok-stage.ensures.ok c.in_ok-stage.ensures.reads c.in-Ok.ensures.next
    c.in-Ok.ensures.recorded c.in-Ok.ensures.contents c.in-Ok.ensures.adopted c.in-Ok.ensures.count c.accept.ensures) c.put_findings.ensures.same).contents

pub returns-in-Ok-clause-stamped : goal.returns-in-Ok-clause-stamped
returns-in-Ok-clause-stamped g c =
    (accepted_still c.args.tree.now c.accept.new.self c.put_findings.new.tree c.args.ops.now
    (accepted_as c.args.tree.now c.stage.new.tree c.answer_staged.new.tree c.accept.new.self c.args.ops.now c.in_ok-stage.ensures.ok c.in_ok-stage.ensures.reads c.in-Ok.ensures.next
    c.in-Ok.ensures.recorded c.in-Ok.ensures.contents c.in-Ok.ensures.adopted c.in-Ok.ensures.count c.accept.ensures) c.put_findings.ensures.same).next

pub returns-in-Ok-clause-none : goal.returns-in-Ok-clause-none
returns-in-Ok-clause-none g c =
    (accepted_still c.args.tree.now c.accept.new.self c.put_findings.new.tree c.args.ops.now
    (accepted_as c.args.tree.now c.stage.new.tree c.answer_staged.new.tree c.accept.new.self c.args.ops.now c.in_ok-stage.ensures.ok c.in_ok-stage.ensures.reads c.in-Ok.ensures.next
    c.in-Ok.ensures.recorded c.in-Ok.ensures.contents c.in-Ok.ensures.adopted c.in-Ok.ensures.count c.accept.ensures) c.put_findings.ensures.same).none

pub returns-in-Ok-clause-recorded : goal.returns-in-Ok-clause-recorded
returns-in-Ok-clause-recorded g c =
    (accepted_still c.args.tree.now c.accept.new.self c.put_findings.new.tree c.args.ops.now
    (accepted_as c.args.tree.now c.stage.new.tree c.answer_staged.new.tree c.accept.new.self c.args.ops.now c.in_ok-stage.ensures.ok c.in_ok-stage.ensures.reads c.in-Ok.ensures.next
    c.in-Ok.ensures.recorded c.in-Ok.ensures.contents c.in-Ok.ensures.adopted c.in-Ok.ensures.count c.accept.ensures) c.put_findings.ensures.same).records

pub returns-in-Ok-clause-within : goal.returns-in-Ok-clause-within
returns-in-Ok-clause-within g c =
    λ but.
    let limits = limits_of c.args.options.now in
    let staged = c.stage.new.tree in
    let now = c.answer_staged.new.tree in
    let findings = c.answer_staged.new.findings in
    let due = c.args.due.now.pages in
    let due' = c.answer_staged.new.due.pages in
    let stamp = staged.next + length c.in_ok-batch.batch.ops in
    let first = c.new-findings.ensures.limits ∙ c.limits.ensures in
    subst (λ l. AreWithinBut l c.put_findings.new.tree c.put_findings.new.due.pages) (c.in-Ok.ensures.found.limits ∙ first)
    (c.put_findings.ensures.within (subst (λ l. AreWithinBut l c.accept.new.self due') (sym (c.in-Ok.ensures.found.limits ∙ first))
    (within_batch limits c.args.tree.now staged now c.accept.new.self c.args.ops.now due due' c.in_ok-stage.ensures.ok c.accept.ensures
    (subst (λ l. AreWithinBut l staged due → AreWithinBut l now due') first (c.in-Ok.ensures.within (c.in-Ok.ensures.found.found (c.new-findings.ensures.found now stamp)))) but)))

pub returns-in-Ok-clause-leaves : goal.returns-in-Ok-clause-leaves
returns-in-Ok-clause-leaves g c =
    (holds_same c.accept.new.self c.put_findings.new.tree c.put_findings.ensures.same).leaves c.put_findings.ensures.same.records
    ∙ batch_leaves c.args.tree.now c.stage.new.tree c.answer_staged.new.tree c.accept.new.self c.args.ops.now c.in_ok-stage.ensures.ok c.accept.ensures c.in-Ok.ensures.leaves
