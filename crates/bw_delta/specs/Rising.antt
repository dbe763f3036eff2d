-- Writes in the order of their stamps.
use Rattle.std.specs.Prelude.{ℕ, ◌+◌, ◌≤◌, List, [], ◌∷◌}
use Rattle.bw_delta.specs.Writes.{WriteView}

-- the stamps strictly rise, from low on
abbrev pub HasRisingStamps : ℕ → List WriteView → Type 0
HasRisingStamps low [] = Unit {0}
HasRisingStamps low (w ∷ ws) = (low ≤ w.stamp) × HasRisingStamps (w.stamp + 1) ws
