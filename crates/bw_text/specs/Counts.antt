-- Counts that stop at 2^64 - 1.
use Rattle.std.specs.Prelude.{ℕ, ◌+◌, ◌-◌, ◌≤◌, ◌^◌, min}

-- a count went up by so much, or stands at its greatest
abbrev pub HasRisenBy : ℕ → ℕ → ℕ → Type 0
HasRisenBy n old new = (min (old + n) (2 ^ 64 - 1) ≤ new) × (new ≤ old + n)
