-- A trace that is run: its batches one after another, and what became of them.
use Rattle.std.specs.Prelude.{◌≡◌, ℕ, Bool, true, false, List, length, count_by, Option, Some, None, Ok, Err}
use Rattle.std.specs.FinMap.{empty}
use Rattle.bw_model.specs.Contents.{Contents}
use Rattle.bw_model.specs.Runs.{Outcome, AnswersInTurn, left_in_turn}
use Rattle.bw_model.specs.Values.{ValueBytes}
use Rattle.bw_model.specs.declared.operations.Op.{Op}
use Rattle.bw_model.specs.declared.outcomes.Refusal.{Refusal}
use Rattle.bw_model.specs.declared.outcomes.Refusal.TheVariants.{TooLong, Memory}
use Rattle.bw_text.specs.Traces.{Trace, behind}
use Rattle.bw_trace.specs.declared.summaries.Summary.{Summary}

-- The trace is some batches, which had these outcomes in turn on an empty index, and then the rest.
pub record IsRun (most : ℕ) (trace : Trace) (outcomes : List Outcome) (rest : Trace) : Type 0 where
  pub batches : List (List Op)
  pub reads : trace ≡ behind batches rest
  pub answered : AnswersInTurn most batches empty outcomes

-- what its batches left in the index
abbrev pub left_by_run : {most : ℕ} {trace : Trace} {outcomes : List Outcome} {rest : Trace} →
    IsRun most trace outcomes rest → Contents ValueBytes
left_by_run {outcomes = outcomes} run = left_in_turn run.batches empty outcomes

-- why a batch was refused, if it was
abbrev pub refusal_in : Outcome → Option Refusal
refusal_in (Ok replies) = None
refusal_in (Err refusal) = Some refusal

abbrev pub is_too_long : Option Refusal → Bool
is_too_long None = false
is_too_long (Some (TooLong ops most)) = true
is_too_long (Some Memory) = false

abbrev pub is_of_memory : Option Refusal → Bool
is_of_memory None = false
is_of_memory (Some (TooLong ops most)) = false
is_of_memory (Some Memory) = true

-- how many batches there were, and how many were refused for their length and where memory ran out
abbrev pub summary_of : List Outcome → Summary
summary_of outcomes = record {
  batches = length outcomes;
  long = count_by (λ outcome. is_too_long (refusal_in outcome)) outcomes;
  memory = count_by (λ outcome. is_of_memory (refusal_in outcome)) outcomes;
}
