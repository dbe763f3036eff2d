use Rattle.std.proofs.Common.{List, length, ap, sym, ◌∙◌}
use Rattle.bw_model.specs.declared.operations.Op.{Op}
use Rattle.bw_delta.specs.Batches.{writes_of}
use Rattle.bw_batch.proofs.OutcomesLemmas.{no_writes}
use Rattle.bw_batch.proofs.batch.stage.Goals as goal

pub stage_reads-requires-clause-reads : goal.stage_reads-requires-clause-reads
stage_reads-requires-clause-reads g c =
    no_writes c.args.ops.now 0 c.args.tree.now.next (ap (λ (l : List Op). length (writes_of 0 l)) (sym c.requires.batch) ∙ sym c.writes.ensures ∙ c.if-writes-eq0.true)
