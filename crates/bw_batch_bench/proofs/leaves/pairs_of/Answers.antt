use Rattle.std.proofs.Common.{◌∙◌, sym}
use Rattle.bw_batch_bench.proofs.RisingPairs.{none, pushed, page}
use Rattle.bw_batch_bench.proofs.leaves.pairs_of.Goals as goal

pub loop-number-init : goal.loop-number-init
loop-number-init c = none c.args.low.now c.in_ok-next.next c.in_ok-pairs.pairs c.in_ok-pairs.ensures (sym c.lt.ensures ∙ c.if-lt.false)

pub loop-number-preserved : goal.loop-number-preserved
loop-number-preserved c = pushed c.args.low.now c.loop-number.next c.in_ok-end.end (c.bytes.result.now, c.to_be_bytes.result) c.loop-number.pairs c.push.new.self c.in_ok-push.ensures.ok c.bytes.ensures.value (sym c.lt-in-loop-number.ensures ∙ c.if-not-lt.false) c.loop-number.invariant

pub returns : goal.returns
returns c = page c.args.low.now c.loop-number.next c.loop-number.pairs c.loop-number.invariant
