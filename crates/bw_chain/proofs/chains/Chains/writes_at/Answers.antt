use Rattle.std.proofs.Common.{◌∙◌, sym, ap}
use Rattle.bw_key.specs.Order.{KeyBytes, key_eq}
use Rattle.bw_chain.proofs.ReadingLemmas.{passed, none_at_other, none_at_base, found_next, found_same, found_all}
use Rattle.bw_chain.proofs.chains.Chains.writes_at.Goals as goal

pub returns-in_default-delta : goal.returns-in_default-delta
returns-in_default-delta c =
    found_all c.loop-delta.found.items c.args.key.now _ _
    (none_at_other c.args.self.now.bases c.args.self.now.records c.loop-delta.word c.in-Some.under c.in-Some.delta.now c.loop-delta.invariant.ends (sym c.in-Some.ensures) c.in_default-delta.not-Put)
    c.loop-delta.invariant.found

pub loop-delta-smaller-in_ok-push-in-Put : goal.loop-delta-smaller-in_ok-push-in-Put
loop-delta-smaller-in_ok-push-in-Put c =
    (passed c.args.self.now.bases c.args.self.now.records c.loop-delta.word c.in-Some.under c.in-Some.delta.now c.args.key.now c.in-Put.write c.loop-delta.invariant.ends c.loop-delta.invariant.leaf (sym c.in-Some.ensures) c.in-Put.is).less

pub loop-delta-preserved-in_ok-push-in-Put : goal.loop-delta-preserved-in_ok-push-in-Put
loop-delta-preserved-in_ok-push-in-Put c =
    let p = passed c.args.self.now.bases c.args.self.now.records c.loop-delta.word c.in-Some.under c.in-Some.delta.now c.args.key.now c.in-Put.write c.loop-delta.invariant.ends c.loop-delta.invariant.leaf (sym c.in-Some.ensures) c.in-Put.is in
    record {
      ends = p.ends;
      leaf = p.leaf;
      found = found_next c.loop-delta.found.items c.push.new.self.items _ c.args.key.now _ _ _ p.writes (ap (key_eq c.args.key.now) (sym c.key.ensures) ∙ ap (λ (k : KeyBytes). key_eq k c.key.result.now) (sym c.bytes.ensures.value) ∙ sym c.eq.ensures ∙ c.if-eq.true) c.in_ok-push-in-Put.ensures.items c.loop-delta.invariant.found;
    }

pub loop-delta-smaller : goal.loop-delta-smaller
loop-delta-smaller c =
    (passed c.args.self.now.bases c.args.self.now.records c.loop-delta.word c.in-Some.under c.in-Some.delta.now c.args.key.now c.in-Put.write c.loop-delta.invariant.ends c.loop-delta.invariant.leaf (sym c.in-Some.ensures) c.in-Put.is).less

pub loop-delta-preserved : goal.loop-delta-preserved
loop-delta-preserved c =
    let p = passed c.args.self.now.bases c.args.self.now.records c.loop-delta.word c.in-Some.under c.in-Some.delta.now c.args.key.now c.in-Put.write c.loop-delta.invariant.ends c.loop-delta.invariant.leaf (sym c.in-Some.ensures) c.in-Put.is in
    record {
      ends = p.ends;
      leaf = p.leaf;
      found = found_same c.loop-delta.found.items c.in-Put.write c.args.key.now _ _ _ p.writes (ap (key_eq c.args.key.now) (sym c.key.ensures) ∙ ap (λ (k : KeyBytes). key_eq k c.key.result.now) (sym c.bytes.ensures.value) ∙ sym c.eq.ensures ∙ c.if-eq.false) c.loop-delta.invariant.found;
    }

pub returns : goal.returns
returns c =
    found_all c.loop-delta.found.items c.args.key.now _ _
    (none_at_base c.args.self.now.bases c.args.self.now.records c.loop-delta.word c.loop-delta.invariant.ends (sym c.in_default.ensures))
    c.loop-delta.invariant.found
