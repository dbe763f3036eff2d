use Rattle.std.proofs.Common.{◌∙◌, sym, ap, subst, is_ok, vec_len, arith}
use Rattle.bw_batch.specs.View.{contents_of, settings_of, next_stamp_of}
use Rattle.bw_batch.specs.Outcomes.{IsCounted, outcome_of, outcomes_of}
use Rattle.bw_batch.specs.Settings.{Settings}
use Rattle.bw_batch.proofs.ChangesLemmas.{changed_by, changes_more}
use Rattle.bw_batch.proofs.OutcomesLemmas.{answered, left_done, pushed, pushed_len, outcomes_more, run_more, told_by, told_more}
use Rattle.bw_batch.proofs.index.Index.run_all.Goals as goal

pub loop-ops-preserved : goal.loop-ops-preserved
loop-ops-preserved g c =
    let now = c.loop-ops.self in
    let v = c.ops-item.result in
    let same = c.deref.ensures.value in
    let said = c.run-outcome.ensures in
    let most = (settings_of now).batch_max in
    let here = answered most c.deref.result.now (contents_of now) c.run-outcome.result said.replies said.too_long said.memory in
    let after = left_done c.deref.result.now now c.run-outcome.new.self c.run-outcome.result said.contents said.refused in
    let changed = changed_by now c.run-outcome.new.self c.deref.result.now c.run-outcome.result said.settings said.contents said.stamped said.recorded said.leaves said.kept said.tidied said.refused said.untried said.unswept in
    let counted = told_by (settings_of now) c.deref.result.now (next_stamp_of now) c.run-outcome.result said.lost said.replaced in
    let told = subst (λ (s : Settings). IsCounted s c.deref.result.now c.run-outcome.result) c.loop-ops.invariant.settings counted in
    let more = pushed c.loop-ops.outcomes.items c.push.new.self.items c.run-outcome.result (is_ok c.push.result) c.push.ensures.items (ap is_ok c.unwrap.ensures) in
    let grown = outcomes_more c.loop-ops.outcomes.items c.push.new.self.items c.run-outcome.result more in
    let both = run_more most c.args.batches.now c.loop-ops.ops-index v (contents_of c.args.self.now) (contents_of now) (contents_of c.run-outcome.new.self)
    (outcomes_of c.loop-ops.outcomes.items) (outcomes_of c.push.new.self.items) (outcome_of c.run-outcome.result) c.loop-ops-test.true c.ops-item.is
    grown
    (rw c.loop-ops.invariant.settings c.loop-ops.invariant.told) c.loop-ops.invariant.left (rw (sym same) here) (rw (sym same) after) in
    record {
      told = rw (← c.loop-ops.invariant.settings) both.0;
      left = both.1;
      settings = said.settings ∙ c.loop-ops.invariant.settings;
      room = omega (arith, c.push.ensures.capacity, c.loop-ops.invariant.room);
      count = pushed_len (vec_len c.loop-ops.outcomes) (vec_len c.push.new.self) c.loop-ops.ops-index (is_ok c.push.result) c.push.ensures.len (ap is_ok c.unwrap.ensures) c.loop-ops.invariant.count;
      changes = changes_more c.args.self.now now c.run-outcome.new.self c.args.batches.now c.loop-ops.ops-index v c.loop-ops.outcomes.items c.push.new.self.items c.run-outcome.result c.loop-ops-test.true c.ops-item.is more c.loop-ops.invariant.changes (rw (sym same) changed);
      besides = told_more (settings_of c.args.self.now) c.args.batches.now c.loop-ops.ops-index v c.loop-ops.outcomes.items c.push.new.self.items c.run-outcome.result c.loop-ops-test.true c.ops-item.is more c.loop-ops.invariant.besides (rw (sym same) told);
    }
