-- Which faults come of what.
use Rattle.std.specs.Prelude.{ℕ}
use Rattle.bw_text.specs.declared.faults.Cause.{Cause}
use Rattle.bw_text.specs.declared.faults.TraceFault.{TraceFault}
use Rattle.bw_text.specs.declared.faults.TraceFault.TheVariants.{Read, Write, Line, Memory, Endless}

-- the input failed, or did not end
abbrev pub IsOfInput : TraceFault → Type 0
IsOfInput Read = Unit {0}
IsOfInput Endless = Unit {0}
IsOfInput Memory = ⊥
IsOfInput Write = ⊥
IsOfInput (Line number cause) = ⊥

-- of taking in bytes, and not of what they say
abbrev pub IsOfBytes : TraceFault → Type 0
IsOfBytes Read = Unit {0}
IsOfBytes Endless = Unit {0}
IsOfBytes Memory = Unit {0}
IsOfBytes Write = ⊥
IsOfBytes (Line number cause) = ⊥

-- of a faulty line
abbrev pub IfLine : TraceFault → (ℕ → Cause → Type 0) → Type 0
IfLine (Line number cause) P = P number cause
IfLine Read P = Unit {0}
IfLine Endless P = Unit {0}
IfLine Memory P = Unit {0}
IfLine Write P = Unit {0}

-- not of writing
abbrev pub IsOfReading : TraceFault → Type 0
IsOfReading Read = Unit {0}
IsOfReading Endless = Unit {0}
IsOfReading Memory = Unit {0}
IsOfReading (Line number cause) = Unit {0}
IsOfReading Write = ⊥

-- not of reading
abbrev pub IsOfWriting : TraceFault → Type 0
IsOfWriting Memory = Unit {0}
IsOfWriting Write = Unit {0}
IsOfWriting Read = ⊥
IsOfWriting Endless = ⊥
IsOfWriting (Line number cause) = ⊥
