use Rattle.std.proofs.Common.{sym, ◌∙◌}
use Rattle.bw_chain.proofs.ReadingLemmas.{none_at_other, none_at_base}
use Rattle.bw_chain.proofs.PageScanLemmas.{passed_write, write_found, writes_found}
use Rattle.bw_chain.proofs.chains.Chains.walk.Goals as goal

pub returns-in_default-delta-clause-writes : goal.returns-in_default-delta-clause-writes
returns-in_default-delta-clause-writes c =
    writes_found c.loop-delta.found.items _ _
    (none_at_other c.args.self.now.bases c.args.self.now.records c.loop-delta.word c.in-Some.under c.in-Some.delta.now c.loop-delta.invariant.under.ends (sym c.in-Some.ensures) c.in_default-delta.not-Put)
    c.loop-delta.invariant.found

pub loop-delta-smaller : goal.loop-delta-smaller
loop-delta-smaller c =
    (passed_write c.args.self.now.bases c.args.self.now.records c.loop-delta.word c.in-Some.under c.in-Some.delta.now c.in-Put.write c.loop-delta.invariant.under.ends c.loop-delta.invariant.under.leaf (sym c.in-Some.ensures) c.in-Put.is).less

pub loop-delta-preserved : goal.loop-delta-preserved
loop-delta-preserved c =
    let under = c.loop-delta.invariant.under in
    let p = passed_write c.args.self.now.bases c.args.self.now.records c.loop-delta.word c.in-Some.under c.in-Some.delta.now c.in-Put.write under.ends under.leaf (sym c.in-Some.ensures) c.in-Put.is in
    record {
      under = record { ends = p.ends; leaf = p.leaf; same = under.same ∙ p.same };
      found = write_found c.loop-delta.found.items c.add_write.new.found.items _ _ _ _ p.writes c.in_ok-add_write-in-Put.ensures c.loop-delta.invariant.found;
    }

pub returns-clause-writes : goal.returns-clause-writes
returns-clause-writes c =
    writes_found c.loop-delta.found.items _ _
    (none_at_base c.args.self.now.bases c.args.self.now.records c.loop-delta.word c.loop-delta.invariant.under.ends (sym c.in_default.ensures))
    c.loop-delta.invariant.found
