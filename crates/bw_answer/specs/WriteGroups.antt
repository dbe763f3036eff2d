-- Writes that are grouped by key.
use Rattle.std.specs.Prelude.{◌≡◌, ℕ, List, true, false}
use Rattle.std.specs.Borrow.{Bor}
use Rattle.std.specs.Ordering.{is_lt}
use Rattle.std.specs.List.Sorted.{IsPartitionPoint}
use Rattle.bw_key.specs.Order.{KeyBytes, key_cmp}
use Rattle.bw_delta.specs.Writes.{WriteView}

-- the writes before this place have lower keys, and those from there on don't
abbrev pub IsFirstOf : KeyBytes → List (Bor WriteView) → ℕ → Type 0
IsFirstOf key writes =
    IsPartitionPoint (λ w. is_lt (key_cmp w.now.key key) ≡ true) (λ w. is_lt (key_cmp w.now.key key) ≡ false) writes
