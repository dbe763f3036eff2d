use Rattle.std.proofs.Common.{[], arith, refl, sym, ◌∙◌}
use Rattle.bw_packed.proofs.PairsLemmas.{other_from, same_at_end, same_from}
use Rattle.bw_packed.proofs.runs.Run.is_same.Goals as goal

pub loop-place-init : goal.loop-place-init
loop-place-init c = refl

pub returns-then-not-is_same_at : goal.returns-then-not-is_same_at
returns-then-not-is_same_at c = sym (c.loop-place.invariant ∙ other_from c.args.self.now c.args.other.now c.loop-place.place c.is_same_at.result
    (omega arith) (omega arith) (c.is_same_at.ensures ([], [])) c.if-not-is_same_at.true)

pub loop-place-preserved : goal.loop-place-preserved
loop-place-preserved c = c.loop-place.invariant ∙ same_from c.args.self.now c.args.other.now c.loop-place.place c.is_same_at.result
    (omega arith) (omega arith) (c.is_same_at.ensures ([], [])) c.if-not-is_same_at.false

pub returns : goal.returns
returns c = sym (c.loop-place.invariant ∙ same_at_end c.args.self.now c.args.other.now c.loop-place.place (omega arith) (omega arith))
