use Rattle.std.proofs.Common.{sym, ◌∙◌}
use Rattle.bw_chain.proofs.ChainLemmas.{over_record}
use Rattle.bw_chain.proofs.chains.Chains.lowest.Goals as goal

pub loop-under-smaller : goal.loop-under-smaller
loop-under-smaller c =
    (over_record c.args.self.now.bases c.args.self.now.records c.loop-under.word c.in-Some.under c.loop-under.invariant.ends (sym c.in-Some.ensures) c.if-under-lt-FLOOR.false).less

pub loop-under-preserved : goal.loop-under-preserved
loop-under-preserved c =
    let u = over_record c.args.self.now.bases c.args.self.now.records c.loop-under.word c.in-Some.under c.loop-under.invariant.ends (sym c.in-Some.ensures) c.if-under-lt-FLOOR.false in
    record { ends = u.ends; same = c.loop-under.invariant.same ∙ u.same }
