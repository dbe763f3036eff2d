use Rattle.std.proofs.Common.{◌≡◌, ◌≤◌, ◌∙◌, ◌++◌, ◌∷◌, [], Err, sym, ap, subst, refl, arith}
use Rattle.std.proofs.KnownBytes.{Consumes-trans}
use Rattle.std.proofs.lemmas.Result.{err_from_is_err_and}
use Rattle.bw_batch.specs.View.{contents_of}
use Rattle.bw_model.specs.Runs.{Answers, left_by}
use Rattle.bw_text.proofs.ReadingSteps.{reads_on_none, reads_on_more}
use Rattle.bw_trace.proofs.RunningLemmas.{runs_to_none, stops_at_start, stops_for_memory, not_over, has_run_more, is_run_at_cut, is_run_at_end, is_run_of_all, front_of_all, front_more, texts_more, texts_end, texts_stay, is_run_of_ended, count_both, fewer_more, summary_more}
use Rattle.bw_batch.specs.Settings.{Settings}
use Rattle.bw_trace.specs.Running.{summary_of, refusal_in, left_by_run}
use Rattle.bw_trace.specs.declared.summaries.Summary.{Summary}
use Rattle.bw_text.specs.declared.faults.TraceFault.TheVariants.{Memory}
use Rattle.bw_trace.proofs.jobs.run_trace.Goals as goal

pub returns-in_err-index-clause-memory : goal.returns-in_err-index-clause-memory
returns-in_err-index-clause-memory g c = λ fresh memory. stops_at_start c.args.job c.args.options.batch_max c.args.source.now.place c.args.source.now.unread (g.W.Outlet.contents c.args.out.now)

pub loop-index-init : goal.loop-index-init
loop-index-init g c = record {
  so_far = runs_to_none c.args.job c.args.options.batch_max c.args.source.now (contents_of c.in_ok-index.index) (g.W.Outlet.contents c.args.out.now) c.default-summary.result c.in_ok-index.ensures.contents c.default-summary.ensures;
  on = reads_on_none c.args.source.now;
  fault = λ e. e;
  settings = c.in_ok-index.ensures.settings;
  room = omega (arith, c.know_budget.ensures, c.default-summary.ensures.0);
  fewer = (omega (arith, c.default-summary.ensures.1.0), omega (arith, c.default-summary.ensures.1.1));
  none_failed = refl;
  none_failed_out = refl;
}

pub returns-in_err-ops-clause-cut : goal.returns-in_err-ops-clause-cut
returns-in_err-ops-clause-cut g c = λ fresh.
    let p = err_from_is_err_and c.from_residual-in_err-ops.result c.from_residual-in_err-ops.ensures.1 in
    let so_far = c.loop-index.invariant.so_far in
    let before = c.args.source.now in
    let mid = c.loop-index.source in
    rw (p.1, p.2) (λ input.
    let cut = c.in_err-ops.ensures.cut (c.loop-index.invariant.fault fresh) input in (
      so_far.read ++ cut.1.0,
      Consumes-trans before.unread mid.unread c.read_batch.new.source.remaining so_far.read cut.1.0 so_far.taken cut.1.1,
      (so_far.outcomes, is_run_at_cut c.args.options.batch_max before.place mid.place so_far.read cut.1.0 so_far.outcomes mid.ended (contents_of c.loop-index.index) cut.0 so_far.has_run cut.1.2, so_far.written),
    ))

pub returns-in_err-ops-clause-memory : goal.returns-in_err-ops-clause-memory
returns-in_err-ops-clause-memory g c = λ fresh memory.
    let so_far = c.loop-index.invariant.so_far in
    let before = c.args.source.now in
    let mid = c.loop-index.source in
    let going = not_over mid.ended c.read_batch.result (c.read_batch.ensures.over (c.loop-index.invariant.fault fresh)) (λ e. let f = c.in_err-ops.was in cc) in
    stops_for_memory c.args.job c.args.options.batch_max before.place so_far.outcomes before.unread (g.W.Outlet.contents c.args.out.now) (g.W.Outlet.contents c.loop-index.out)
    (is_run_of_all c.args.options.batch_max before.place mid.place so_far.read so_far.outcomes mid.ended (contents_of c.loop-index.index) before.unread mid.unread so_far.has_run so_far.taken
    (λ e. absurd (let f = going in cc)))
    (front_of_all _ _ _ so_far.written)

pub returns-in_err-refusal-clause-memory : goal.returns-in_err-refusal-clause-memory
returns-in_err-refusal-clause-memory g c = λ fresh memory.
    let so_far = c.loop-index.invariant.so_far in
    let before = c.args.source.now in
    let mid = c.loop-index.source in
    let now = c.read_batch.new.source in
    let held = contents_of c.loop-index.index in
    let ops = c.in-Some.ops.items in
    let said = rw c.in-Some.is at c.in_ok-ops.ensures.batch in
    let p = err_from_is_err_and c.from_residual-in_err-refusal.result c.from_residual-in_err-refusal.ensures.1 in
    let is_memory : c.in_err-refusal.field-0.0 ≡ Memory = let e = rw (p.1, p.2) at memory in cc in
    let wrote = c.in_err-refusal.ensures.memory (ap Err is_memory) in
    let most = ap (λ (s : Settings). s.batch_max) c.loop-index.invariant.settings in
    let told : Answers c.args.options.batch_max ops held wrote.0 = rw (most, c.deref.ensures.value) at wrote.1 in
    let outcomes = so_far.outcomes ++ wrote.0 ∷ [] in
    stops_for_memory c.args.job c.args.options.batch_max before.place outcomes before.unread (g.W.Outlet.contents c.args.out.now) (g.W.Outlet.contents c.answer.new.out)
    (is_run_of_all c.args.options.batch_max before.place now.place (so_far.read ++ said.0) outcomes now.ended (left_by ops held wrote.0) before.unread now.unread
    (has_run_more c.args.options.batch_max before.place mid.place now.place so_far.read said.0 so_far.outcomes wrote.0 ops mid.ended now.ended held (left_by ops held wrote.0)
    said.2.1 so_far.has_run said.2.0 told refl)
    (Consumes-trans before.unread mid.unread now.unread so_far.read said.0 so_far.taken said.1)
    (λ e. (said.2.2 e).nothing_left))
    (front_more c.args.job (g.W.Outlet.contents c.args.out.now) (g.W.Outlet.contents c.loop-index.out) (g.W.Outlet.contents c.answer.new.out) so_far.outcomes wrote.0 so_far.written wrote.2)

pub loop-index-preserved : goal.loop-index-preserved
loop-index-preserved g c =
    let so_far = c.loop-index.invariant.so_far in
    let before = c.args.source.now in
    let mid = c.loop-index.source in
    let now = c.read_batch.new.source in
    let held = contents_of c.loop-index.index in
    let ops = c.in-Some.ops.items in
    let said = rw c.in-Some.is at c.in_ok-ops.ensures.batch in
    let falls = rw c.in-Some.is at c.in_ok-ops.ensures.falls in
    let answered = c.in_ok-refusal.ensures.ok in
    let outcome = answered.0 in
    let most = ap (λ (s : Settings). s.batch_max) c.loop-index.invariant.settings in
    let told : Answers c.args.options.batch_max ops held outcome = rw (most, c.deref.ensures.value) at answered.1 in
    let left : contents_of c.answer.new.index ≡ left_by ops held outcome = rw c.deref.ensures.value at answered.2 in
    record {
      so_far = record {
        read = so_far.read ++ said.0;
        outcomes = so_far.outcomes ++ outcome ∷ [];
        taken = Consumes-trans before.unread mid.unread now.unread so_far.read said.0 so_far.taken said.1;
        has_run = has_run_more c.args.options.batch_max before.place mid.place now.place so_far.read said.0 so_far.outcomes outcome ops mid.ended now.ended held (contents_of c.answer.new.index)
            said.2.1 so_far.has_run said.2.0 told left;
        written = texts_more c.args.job (g.W.Outlet.contents c.args.out.now) (g.W.Outlet.contents c.loop-index.out) (g.W.Outlet.contents c.answer.new.out) so_far.outcomes outcome so_far.written answered.3;
        counted = c.count.ensures ∙ count_both c.loop-index.summary (summary_of so_far.outcomes) c.in_ok-refusal.refusal (refusal_in outcome) so_far.counted answered.4 ∙ sym (summary_more so_far.outcomes outcome);
      };
      on = reads_on_more before mid now c.loop-index.invariant.on c.in_ok-ops.ensures.on;
      fault = λ fresh. c.in_ok-ops.ensures.none;
      settings = c.answer.ensures.settings ∙ c.loop-index.invariant.settings;
      room = omega (arith, ap (λ (s : Summary). s.batches) c.count.ensures, falls, c.loop-index.invariant.room);
      fewer = subst (λ (s : Summary). (s.long ≤ s.batches) × (s.memory ≤ s.batches)) (sym c.count.ensures) (fewer_more c.loop-index.summary c.in_ok-refusal.refusal c.loop-index.invariant.fewer);
      none_failed = c.in_ok-ops.ensures.none_failed ∙ c.loop-index.invariant.none_failed;
      none_failed_out = c.in_ok-refusal.ensures.none_failed ∙ c.loop-index.invariant.none_failed_out;
    }

pub returns-in_err-print_end-clause-memory : goal.returns-in_err-print_end-clause-memory
returns-in_err-print_end-clause-memory g c = λ fresh memory.
    let so_far = c.loop-index.invariant.so_far in
    let before = c.args.source.now in
    let mid = c.loop-index.source in
    let now = c.read_batch.new.source in
    let said = rw c.in_default.is at c.in_ok-ops.ensures.batch in
    let run = is_run_at_end c.args.options.batch_max before.place mid.place so_far.read said.0 so_far.outcomes mid.ended (contents_of c.loop-index.index) so_far.has_run said.2.0 said.2.1 in
    let p = err_from_is_err_and c.from_residual-in_err-print_end.result c.from_residual-in_err-print_end.ensures.1 in
    let is_memory : c.in_err-print_end.field-0.0 ≡ Memory = let e = rw (p.1, p.2) at memory in cc in
    stops_for_memory c.args.job c.args.options.batch_max before.place so_far.outcomes before.unread (g.W.Outlet.contents c.args.out.now) (g.W.Outlet.contents c.print_end.new.out)
    (is_run_of_ended c.args.options.batch_max before.place (so_far.read ++ said.0) so_far.outcomes before.unread now.unread run.0
    (Consumes-trans before.unread mid.unread now.unread so_far.read said.0 so_far.taken said.1) said.2.2.nothing_left)
    (front_of_all _ _ _ (texts_stay c.args.job (g.W.Outlet.contents c.args.out.now) (g.W.Outlet.contents c.loop-index.out) (g.W.Outlet.contents c.print_end.new.out) so_far.outcomes so_far.written
    (c.in_err-print_end.ensures.memory (ap Err is_memory))))

pub returns-clause-done : goal.returns-clause-done
returns-clause-done g c =
    let so_far = c.loop-index.invariant.so_far in
    let before = c.args.source.now in
    let mid = c.loop-index.source in
    let now = c.read_batch.new.source in
    let said = rw c.in_default.is at c.in_ok-ops.ensures.batch in
    let run = is_run_at_end c.args.options.batch_max before.place mid.place so_far.read said.0 so_far.outcomes mid.ended (contents_of c.loop-index.index) so_far.has_run said.2.0 said.2.1 in (
      so_far.read ++ said.0,
      Consumes-trans before.unread mid.unread now.unread so_far.read said.0 so_far.taken said.1,
      said.2.2.nothing_left,
      (
        so_far.outcomes,
        (
          run.0,
          so_far.counted,
          texts_end c.args.job c.args.options.page_max (g.W.Outlet.contents c.args.out.now) (g.W.Outlet.contents c.loop-index.out) (g.W.Outlet.contents c.print_end.new.out) so_far.outcomes
              (contents_of c.loop-index.index) (left_by_run run.0) run.1 so_far.written (rw c.page_max.ensures.value at c.in_ok-print_end.ensures.ok),
        ),
      ),
    )
