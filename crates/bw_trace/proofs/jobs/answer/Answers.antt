use Rattle.std.proofs.Common.{◌≡◌, Result, Ok, Err, ap, refl, ◌∙◌}
use Rattle.std.specs.Result.{result_err}
use Rattle.std.proofs.lemmas.Result.{err_from_is_err_and}
use Rattle.bw_batch.proofs.OutcomesLemmas.{answered, left_done}
use Rattle.bw_batch.specs.Outcomes.{outcome_of}
use Rattle.bw_batch.specs.View.{contents_of, settings_of}
use Rattle.bw_batch.specs.declared.index.Done.{Done}
use Rattle.bw_model.specs.declared.outcomes.Refusal.{Refusal}
use Rattle.bw_text.specs.declared.faults.TraceFault.TheVariants.{Memory}
use Rattle.bw_trace.specs.Running.{refusal_in}
use Rattle.bw_trace.proofs.jobs.answer.Goals as goal

-- the refusal of an outcome
refusal_of : (outcome : Result Done Refusal) → result_err outcome ≡ refusal_in (outcome_of outcome)
refusal_of (Ok done) = refl
refusal_of (Err refusal) = refl

pub returns-in_err-print_outcome-clause-memory : goal.returns-in_err-print_outcome-clause-memory
returns-in_err-print_outcome-clause-memory g c = λ memory.
    let before = c.args.index.now in
    let said = c.run-outcome.ensures in
    let p = err_from_is_err_and c.from_residual.result c.from_residual.ensures.1 in
    let is_memory : c.in_err-print_outcome.field-0.0 ≡ Memory = let e = rw (p.1, p.2) at memory in cc in (
      outcome_of c.run-outcome.result,
      answered (settings_of before).batch_max c.args.ops.now (contents_of before) c.run-outcome.result said.replies said.too_long said.memory,
      c.in_err-print_outcome.ensures.memory (ap Err is_memory),
    )

pub returns-clause-ok : goal.returns-clause-ok
returns-clause-ok g c =
    let before = c.args.index.now in
    let said = c.run-outcome.ensures in (
      outcome_of c.run-outcome.result,
      answered (settings_of before).batch_max c.args.ops.now (contents_of before) c.run-outcome.result said.replies said.too_long said.memory,
      left_done c.args.ops.now before c.run-outcome.new.self c.run-outcome.result said.contents said.refused,
      c.in_ok-print_outcome.ensures.ok,
      c.err.ensures.value ∙ refusal_of c.run-outcome.result,
    )
