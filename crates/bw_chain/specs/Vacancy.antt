-- Numbers that are vacant: there is no base page of them.
use Rattle.std.specs.Prelude.{◌≡◌, ℕ, suc, ◌≤◌, slice_get}
use Rattle.bw_level.specs.Changes.{Bases, based}
use Rattle.bw_level.specs.Slots.{Free}

-- all numbers from this one on are vacant
abbrev pub AreVacantFrom : Bases → ℕ → Type 0
AreVacantFrom bases count = (n : ℕ) → count ≤ n → based (slice_get bases n) ≡ Free

-- the number before this one isn't vacant, if there is one before it
abbrev pub IsTakenBefore : Bases → ℕ → Type 0
IsTakenBefore bases count = (n : ℕ) → suc n ≡ count → based (slice_get bases n) ≡ Free → ⊥
