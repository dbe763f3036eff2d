use Rattle.std.proofs.Common.{◌∙◌, List, arith, ap, length, sym}
use Rattle.bw_model.specs.declared.operations.Reply.{Reply}
use Rattle.bw_look.specs.View.{contents_at}
use Rattle.bw_batch.specs.Lens.{key_count}
use Rattle.bw_batch.specs.Settings.{limits_of}
use Rattle.bw_batch.proofs.DueLemmas.{within_answered}
use Rattle.bw_batch.proofs.LenLemmas.{replies_length}
use Rattle.bw_batch.proofs.OutcomesLemmas.{same_writes}
use Rattle.bw_batch.proofs.LeavesLemmas.{same_listed}
use Rattle.bw_batch.proofs.index.Index.answer.Goals as goal

pub len_after-self-inside-requires-clause-alike : goal.len_after-self-inside-requires-clause-alike
len_after-self-inside-requires-clause-alike g c =
    let tree = c.self.inside.tree in
    ap (λ (l : List Reply). length l) (c.as_slice.ensures ∙ c.in_ok-answered.ensures.replies) ∙ replies_length c.args.ops.now (contents_at tree tree.next)

pub len_after-self-inside-requires-clause-writes : goal.len_after-self-inside-requires-clause-writes
len_after-self-inside-requires-clause-writes g c =
    let written = same_writes c.args.ops.now c.self.inside.tree.next 0 in
    omega (arith, c.records.ensures, c.records-records.ensures, c.in_ok-answered.ensures.recorded, written)

pub invariant_of-self-2 : goal.invariant_of-self-2
invariant_of-self-2 g c =
    let said = c.run_batch.ensures in
    let tree = c.self.inside.tree in (
      said.none,
      within_answered c.run_batch.result (limits_of c.self.inside.options) tree c.run_batch.new.tree c.self.inside.due c.run_batch.new.due said.within said.err said.due c.self.invariant.1,
      ap key_count c.in_ok-answered.ensures.contents
          ∙ sym (c.len_after-self-inside.ensures (contents_at tree tree.next) c.self.invariant.2 (c.as_slice.ensures ∙ c.in_ok-answered.ensures.replies)),
    )

pub returns-clause-leaves : goal.returns-clause-leaves
returns-clause-leaves g c = rw (← c.self.view_is) (same_listed c.self.inside.tree c.run_batch.new.tree c.in_ok-answered.ensures.leaves)
