-- What became of a trace, as the exit status tells.
use Rattle.std.specs.Prelude.{◌≡◌, ℕ, ◌⊎◌, List, ◌++◌, Option, Ok}
use Rattle.std.specs.Option.{IfSome}
use Rattle.std.specs.Io.KnownBytes.{Appends}
use Rattle.bw_batch.specs.Settings.{Settings}
use Rattle.bw_model.specs.Runs.{Outcome}
use Rattle.bw_text.specs.Counts.{HasRisenBy}
use Rattle.bw_trace.specs.Ends.{IsEndText}
use Rattle.bw_text.specs.Grammar.{first_place}
use Rattle.bw_trace.specs.Running.{IsRun, left_by_run, summary_of}
use Rattle.bw_trace.specs.Statuses.{status_of}
use Rattle.bw_trace.specs.BatchTexts.{batches_text}
use Rattle.bw_text.specs.Traces.{Trace, trace_from, cut_trace_from, no_trace, faulty}
use Rattle.bw_text.specs.Writing.{IsFront, TakesFront}
use Rattle.bw_text.specs.declared.faults.Cause.{Cause}
use Rattle.bw_trace.specs.declared.jobs.Job.{Job}
use Rattle.bw_trace.specs.declared.summaries.Summary.{Summary}

-- The bytes are a trace without a fault, its batches had outcomes of which this is the summary, and the job's texts of
-- them and of what they left were written.
abbrev pub IsDone : Settings → Job → List ℕ → Option (List ℕ) → Option (List ℕ) → Summary → Type 0
IsDone settings job bytes old new summary =
    (outcomes : List Outcome) × ((run : IsRun settings.batch_max (trace_from first_place bytes) outcomes no_trace)
    × (summary ≡ summary_of outcomes) × ((end : List ℕ) × IsEndText job settings.page_max (left_by_run run) end
    × Appends old new (batches_text job outcomes ++ end)))

-- The line of this number is their first faulty one, and the job's texts of the batches before it were written.
abbrev pub IsFaulty : Settings → Job → List ℕ → Option (List ℕ) → Option (List ℕ) → ℕ → Cause → Type 0
IsFaulty settings job bytes old new number cause =
    (outcomes : List Outcome) × IsRun settings.batch_max (trace_from first_place bytes) outcomes (faulty number cause)
    × Appends old new (batches_text job outcomes)

-- Memory ran out: a front of the job's texts of the first batches was written.
abbrev pub IsOutOfMemory : Settings → Job → List ℕ → Option (List ℕ) → Option (List ℕ) → Type 0
IsOutOfMemory settings job bytes old new =
    (outcomes : List Outcome) × ((rest : Trace)
    × IsRun settings.batch_max (trace_from first_place bytes) outcomes rest)
    × TakesFront old new (batches_text job outcomes)

-- The input failed or didn't end behind a front of the bytes: the job's texts of the batches that whole lines `go` ended
-- there were written.
abbrev pub IsCut : Settings → Job → List ℕ → Option (List ℕ) → Option (List ℕ) → Type 0
IsCut settings job bytes old new =
    (read : List ℕ) × IsFront read bytes
    × ((outcomes : List Outcome) × IsRun settings.batch_max (cut_trace_from first_place read) outcomes no_trace
    × Appends old new (batches_text job outcomes))

abbrev pub IsJobStatus : ℕ → Type 0
IsJobStatus status = (status ≡ 0) ⊎ ((status ≡ 1) ⊎ ((status ≡ 3) ⊎ (status ≡ 4)))

-- What the status of a job tells of an input and of what was written. At 1 the output failed, or what was written is
-- that before the input failed or memory ran out.
pub record IsJobOutcome (status : ℕ) (settings : Settings) (job : Job) (input old new : Option (List ℕ))
    (failures after : ℕ) : Type 0 where
  pub one_of : IsJobStatus status
  pub done : (status ≡ 0) ⊎ (status ≡ 4) →
      IfSome input (λ bytes. (summary : Summary) × (status ≡ status_of (Ok summary))
      × IsDone settings job bytes old new summary)
  pub line : status ≡ 3 → IfSome input (λ bytes.
      (number : ℕ) × (cause : Cause) × IsFaulty settings job bytes old new number cause)
  pub failed : status ≡ 1 → HasRisenBy 1 failures after
      ⊎ IfSome input (λ bytes. IsCut settings job bytes old new ⊎ IsOutOfMemory settings job bytes old new)
