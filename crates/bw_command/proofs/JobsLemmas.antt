-- A trace that was read whole.
use Rattle.std.proofs.Common.{◌≡◌, ℕ, Bool, List, ◌++◌, Option, Some, None, Result, Ok, Err, IfOk, sym, ap, ◌∙◌, subst, append-nil, refl, []}
use Rattle.std.specs.Option.{IfSome}
use Rattle.std.proofs.KnownBytes.{Appends-nil}
use Rattle.std.specs.Io.KnownBytes.{Appends, Consumes, IsAtEnd}
use Rattle.bw_batch.specs.Settings.{Settings}
use Rattle.bw_model.specs.Runs.{Outcome}
use Rattle.bw_command.specs.Jobs.{IsJobOutcome, IsOutOfMemory}
use Rattle.bw_trace.specs.Ends.{IsEndText}
use Rattle.bw_text.specs.Grammar.{first_place}
use Rattle.bw_trace.specs.Running.{IsRun, left_by_run, summary_of}
use Rattle.bw_trace.specs.BatchTexts.{batches_text}
use Rattle.bw_text.specs.Traces.{trace_from, no_trace}
use Rattle.bw_text.specs.declared.faults.TraceFault.{TraceFault}
use Rattle.bw_text.specs.declared.places.Place.{Place}
use Rattle.bw_trace.specs.declared.jobs.Job.{Job}
use Rattle.bw_trace.specs.declared.summaries.Summary.{Summary}

-- a trace from a place on, run to its end
abbrev IsDoneFrom : Settings → Job → Place → List ℕ → Option (List ℕ) → Option (List ℕ) → Summary → Type 0
IsDoneFrom settings job place bytes old new summary =
    (outcomes : List Outcome) × ((run : IsRun settings.batch_max (trace_from place bytes) outcomes no_trace)
    × (summary ≡ summary_of outcomes) × ((end : List ℕ) × IsEndText job settings.page_max (left_by_run run) end
    × Appends old new (batches_text job outcomes ++ end)))

of_all : (settings : Settings) (job : Job) (place : Place) (read : List ℕ) (input now old new : Option (List ℕ)) (summary : Summary) → place ≡ first_place →
    Consumes input now read → IsAtEnd now → IsDoneFrom settings job place read old new summary → IfSome input (λ bytes. IsDoneFrom settings job first_place bytes old new summary)
of_all settings job place read None now old new summary first takes end done = tt
of_all settings job place read (Some all) None old new summary first takes end done = absurd takes
of_all settings job place read (Some all) (Some rest) old new summary first takes end done =
    let whole : read ≡ all = sym (takes ∙ ap (λ l. read ++ l) end ∙ append-nil read) in
    subst (λ b. IsDoneFrom settings job first_place b old new summary) whole (subst (λ p. IsDoneFrom settings job p read old new summary) first done)

-- at the end all that the input had was read
pub all_done : (settings : Settings) (job : Job) (place : Place) (input unread now old new : Option (List ℕ)) (outcome : Result Summary TraceFault) → place ≡ first_place → unread ≡ input →
    IfOk outcome (λ summary. (read : List ℕ) × Consumes unread now read × IsAtEnd now × IsDoneFrom settings job place read old new summary) →
    IfOk outcome (λ summary. IfSome input (λ bytes. IsDoneFrom settings job first_place bytes old new summary))
all_done settings job place input unread now old new (Ok summary) first same (read, takes, end, done) =
    of_all settings job place read input now old new summary first (subst (λ u. Consumes u now read) same takes) end done
all_done settings job place input unread now old new (Err fault) first same done = tt

-- before the first batch, nothing was written
pub nothing_done : (settings : Settings) (job : Job) (input contents : Option (List ℕ)) → IfSome input (λ bytes. IsOutOfMemory settings job bytes contents contents)
nothing_done settings job None contents = tt
nothing_done settings job (Some bytes) contents = (
  [],
  (trace_from first_place bytes, record { batches = []; reads = refl; answered = tt }),
  ([], ([], refl), Appends-nil contents),
)

-- what a job's outcome tells, it tells of each way to post and to tidy
pub as_told : (status : ℕ) (settings : Settings) (beside eager : Bool) (job : Job) (input old new : Option (List ℕ)) (failures after : ℕ) → IsJobOutcome status (record settings { beside = beside; eager = eager }) job input old new failures after →
    IsJobOutcome status settings job input old new failures after
as_told status settings beside eager job input old new failures after told = record { one_of = told.one_of; done = told.done; line = told.line; failed = told.failed }
