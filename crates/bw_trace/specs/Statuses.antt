-- The exit status of a run.
use Rattle.std.specs.Prelude.{ℕ, ◌+◌, ◌==◌, if◌then◌else◌, Result, Ok, Err}
use Rattle.bw_text.specs.declared.faults.TraceFault.{TraceFault}
use Rattle.bw_text.specs.declared.faults.TraceFault.TheVariants.{Read, Write, Line, Memory, Endless}
use Rattle.bw_trace.specs.declared.summaries.Summary.{Summary}

-- 0 where all batches were accepted, 4 where one was refused; 3 at a faulty line, and 1 at another fault
abbrev pub status_of : Result Summary TraceFault → ℕ
status_of (Ok summary) = if summary.long + summary.memory == 0 then 0 else 4
status_of (Err (Line number cause)) = 3
status_of (Err Read) = 1
status_of (Err Write) = 1
status_of (Err Memory) = 1
status_of (Err Endless) = 1
