-- What jobs print of batches.
use Rattle.std.specs.Prelude.{ℕ, List, []}
use Rattle.std.specs.List.{flat_map}
use Rattle.bw_model.specs.Runs.{Outcome}
use Rattle.bw_text.specs.Texts.{outcome_text}
use Rattle.bw_trace.specs.declared.jobs.Job.{Job}
use Rattle.bw_trace.specs.declared.jobs.Job.TheVariants.{Run, Dump, Shape, Picture}

-- what a job prints of a batch
abbrev pub batch_text : Job → Outcome → List ℕ
batch_text Run outcome = outcome_text outcome
batch_text Dump outcome = []
batch_text Shape outcome = []
batch_text Picture outcome = []

abbrev pub batches_text : Job → List Outcome → List ℕ
batches_text job = flat_map (batch_text job)
