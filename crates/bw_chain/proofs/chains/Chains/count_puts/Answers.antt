use Rattle.std.proofs.Common.{length, ap, refl, sym, ◌∙◌, arith}
use Rattle.bw_chain.specs.Chains.{link_of}
use Rattle.bw_chain.proofs.ChainLemmas.{no_record_there, put_over, same_next}
use Rattle.bw_level.proofs.CountLemmas.{walk_fits}
use Rattle.bw_chain.proofs.PageScanLemmas.{passed_write}
use Rattle.bw_chain.proofs.ReadingLemmas.{none_at_base}
use Rattle.bw_chain.proofs.chains.Chains.count_puts.Goals as goal

pub loop-under-init : goal.loop-under-init
loop-under-init c = record {
  under = record { ends = c.requires.ends; leaf = c.requires.leaf; same = refl };
  counted = omega arith;
  bound = let fits = walk_fits (link_of c.args.self.now.records) (length c.args.self.now.records) c.args.head in omega (arith, fits);
}

pub returns-then-under-lt-FLOOR : goal.returns-then-under-lt-FLOOR
returns-then-under-lt-FLOOR c = omega (arith, c.count_lowest.ensures.count, c.loop-under.invariant.counted)

pub count_lowest-requires-clause-last : goal.count_lowest-requires-clause-last
count_lowest-requires-clause-last c = λ under is. omega (arith, same_next (sym is ∙ sym c.in-Some.ensures), c.if-under-lt-FLOOR.true)

pub loop-under-smaller : goal.loop-under-smaller
loop-under-smaller c =
    let self = c.args.self.now in
    let invariant = c.loop-under.invariant in
    let p = put_over self.bases self.records c.loop-under.word c.in-Some.under invariant.under.ends (sym c.in-Some.ensures) c.if-under-lt-FLOOR.false in
    (passed_write self.bases self.records c.loop-under.word c.in-Some.under _ p.0 invariant.under.ends invariant.under.leaf p.1 refl).less

pub loop-under-preserved : goal.loop-under-preserved
loop-under-preserved c =
    let self = c.args.self.now in
    let invariant = c.loop-under.invariant in
    let put = put_over self.bases self.records c.loop-under.word c.in-Some.under invariant.under.ends (sym c.in-Some.ensures) c.if-under-lt-FLOOR.false in
    let p = passed_write self.bases self.records c.loop-under.word c.in-Some.under _ put.0 invariant.under.ends invariant.under.leaf put.1 refl in
    record {
      under = record { ends = p.ends; leaf = p.leaf; same = invariant.under.same ∙ p.same };
      counted = omega (arith, ap length p.writes, invariant.counted);
      bound = omega (arith, p.less, invariant.bound);
    }

pub returns : goal.returns
returns c =
    let self = c.args.self.now in
    let nothing = none_at_base self.bases self.records c.loop-under.word c.loop-under.invariant.under.ends (no_record_there self.records c.loop-under.word (sym c.in_default.ensures)) in
    omega (arith, ap length nothing, c.loop-under.invariant.counted)
