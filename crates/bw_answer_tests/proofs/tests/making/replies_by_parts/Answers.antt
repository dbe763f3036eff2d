use Rattle.std.proofs.Common.{◌∙◌, ◌+◌, List, take, ap, sym}
use Rattle.bw_model.specs.Model.{contents_after}
use Rattle.bw_model.specs.declared.operations.Op.{Op}
use Rattle.bw_look.specs.View.{contents_at}
use Rattle.bw_answer_tests.proofs.ReadOnly.{reads_leave}
use Rattle.bw_answer_tests.proofs.tests.making.replies_by_parts.Goals as goal

pub replies_in_parts-requires-clause-reads : goal.replies_in_parts-requires-clause-reads
replies_in_parts-requires-clause-reads g c κs within = λ i.
    let before = contents_at c.args.tree.now 0 in
    c.requires.quiet (0 + i) ∙ sym (ap (λ (l : List Op). contents_after (take i l) before) c.in_ok-batch.ensures ∙ reads_leave c.args.ops.now c.requires.reads i before)
