use Rattle.std.proofs.Common.{ap, ◌+◌}
use Rattle.bw_chain.proofs.RecordLemmas.{appended_more}
use Rattle.bw_chain.proofs.records.append_all.Goals as goal

pub loop-at-preserved : goal.loop-at-preserved
loop-at-preserved c = record {
  records = appended_more c.args.arena.now.records c.loop-at.arena.records c.append_op.new.arena.records c.args.base c.args.ops.now c.args.places.now c.loop-at.at _ c.index-ops-place.result c.loop-at-test.true c.requires.there c.index-ops-place.is (ap (λ n. c.args.base + n) c.from.ensures) c.loop-at.invariant.records c.in_ok-append_op.ensures.ok;
  few = c.append_op.ensures.few;
}
