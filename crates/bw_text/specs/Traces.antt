-- What a trace stands for: batches, and where its first faulty line is.
use Rattle.std.specs.Prelude.{◌≡◌, ℕ, ◌+◌, Bool, true, false, List, [], ◌∷◌, ◌++◌, Option, Some, None}
use Rattle.bw_model.specs.declared.operations.Op.{Op}
use Rattle.bw_text.specs.declared.faults.Cause.{Cause}
use Rattle.bw_text.specs.declared.parse.Meaning.{Meaning}
use Rattle.bw_text.specs.declared.parse.Meaning.TheVariants.{Nothing, Operation, EndsBatch, StartsVersion2, Faulty}
use Rattle.bw_text.specs.declared.places.Place.{Place}
use Rattle.bw_text.specs.Lines.{lines_of, parsed_lines_of}
use Rattle.bw_text.specs.Grammar.{meaning_of, place_behind}

-- the batches before the first fault, and that fault with the number of its line
pub record Trace : Type 0 where
  pub batches : List (List Op)
  pub fault : Option (ℕ × Cause)

abbrev pub no_trace : Trace
no_trace = record { batches = []; fault = None }

abbrev pub faulty : ℕ → Cause → Trace
faulty number cause = record { batches = []; fault = Some (number, cause) }

-- a trace that begins with these batches
abbrev pub behind : List (List Op) → Trace → Trace
behind batches rest = record { batches = batches ++ rest.batches; fault = rest.fault }

abbrev pub with_batch : List Op → Trace → Trace
with_batch ops rest = record { batches = ops ∷ rest.batches; fault = rest.fault }

-- the end of the input makes a batch of the operations since the last `go`, where there are any
abbrev pub at_end : List Op → Trace
at_end [] = no_trace
at_end (op ∷ ops) = with_batch (op ∷ ops) no_trace

-- where the input was cut off, they make none
abbrev pub at_cut : List Op → Trace
at_cut ops = no_trace

-- line `number` behind operations, before a rest that is read on
abbrev pub line_then : ℕ → List Op → Meaning → (List Op → Trace) → Trace
line_then number ops Nothing rest = rest ops
line_then number ops (Operation op) rest = rest (ops ++ op ∷ [])
line_then number ops EndsBatch rest = with_batch ops (rest [])
line_then number ops StartsVersion2 rest = rest ops
line_then number ops (Faulty cause) rest = faulty number cause

-- lines from a place on, with the operations since the last `go`, and what their end makes of operations
abbrev pub trace_of_lines : (List Op → Trace) → Place → List Op → List (List ℕ) → Trace
trace_of_lines finish place ops [] = finish ops
trace_of_lines finish place ops (line ∷ lines) =
    let meaning = meaning_of place line in
    line_then (place.lines + 1) ops meaning (λ ops'. trace_of_lines finish (place_behind place meaning) ops' lines)

-- the rest of a trace, from a place on
abbrev pub trace_from : Place → List ℕ → Trace
trace_from place bytes = trace_of_lines at_end place [] (lines_of bytes)

-- what the lines that can be parsed say of it, where the input was cut off
abbrev pub cut_trace_from : Place → List ℕ → Trace
cut_trace_from place bytes = trace_of_lines at_cut place [] (parsed_lines_of bytes)

-- The bytes that were read stand for these batches, from one place to another, and whatever follows them is read from
-- there on. At the end of the input nothing does.
pub record StandFor (before : Place) (read : List ℕ) (batches : List (List Op)) (after : Place)
    (ended : Bool) : Type 0 where
  pub alone : trace_from before read ≡ behind batches no_trace
  pub further : ended ≡ false → (more : List ℕ) →
      trace_from before (read ++ more) ≡ behind batches (trace_from after more)
  pub cut : ended ≡ false → (more : List ℕ) →
      cut_trace_from before (read ++ more) ≡ behind batches (cut_trace_from after more)

-- the bytes that were read have a first faulty line, whatever follows them
abbrev pub IsFaultyAt : Place → List ℕ → ℕ → Cause → Bool → Type 0
IsFaultyAt before read number cause ended =
    (more : List ℕ) → (ended ≡ true → more ≡ []) → trace_from before (read ++ more) ≡ faulty number cause
