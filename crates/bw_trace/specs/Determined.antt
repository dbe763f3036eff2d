-- The text of a run is a function of its trace, of the most operations of a batch, and of the job, where no batch ran
-- out of memory. Of a job that prints pages this is said of the batches' texts and of the contents at the end.
use Rattle.std.specs.Prelude.{◌≡◌, ℕ, List, [], Option}
use Rattle.bw_model.specs.Contents.{Contents}
use Rattle.bw_model.specs.Runs.{Outcome}
use Rattle.bw_model.specs.Values.{ValueBytes}
use Rattle.bw_trace.specs.Ends.{IsEndText, IsOfContents}
use Rattle.bw_trace.specs.Running.{IsRun, left_by_run, summary_of}
use Rattle.bw_trace.specs.BatchTexts.{batches_text}
use Rattle.bw_text.specs.Traces.{Trace}
use Rattle.bw_text.specs.declared.faults.Cause.{Cause}
use Rattle.bw_trace.specs.declared.jobs.Job.{Job}

-- nothing is left to read: the trace ended, or its first faulty line stopped it
abbrev pub stopped : Option (ℕ × Cause) → Trace
stopped fault = record { batches = []; fault = fault }

-- one text alone is printed at the end of both, whatever the limits of their pages are
abbrev pub HaveOneEnd : Job → Contents ValueBytes → Contents ValueBytes → Type 0
HaveOneEnd job contents others = (page_max page_max' : ℕ) (text text' : List ℕ) →
    IsEndText job page_max contents text → IsEndText job page_max' others text' → text ≡ text'

-- two runs of one trace that counted no batch as refused as out of memory
abbrev pub TextsAreDetermined : Type 0
TextsAreDetermined = (most : ℕ) (trace : Trace) (fault : Option (ℕ × Cause)) (job : Job)
    (outcomes others : List Outcome)
    (run : IsRun most trace outcomes (stopped fault)) (other : IsRun most trace others (stopped fault))
    → (summary_of outcomes).memory ≡ 0 → (summary_of others).memory ≡ 0
    → (summary_of outcomes ≡ summary_of others)
    × (batches_text job outcomes ≡ batches_text job others)
    × (left_by_run run ≡ left_by_run other)
    × (IsOfContents job → HaveOneEnd job (left_by_run run) (left_by_run other))
