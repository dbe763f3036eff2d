-- Lists in segments, and what they stand for.
use Rattle.std.specs.Prelude.{◌≡◌, ◌≤◌, ◌^◌, ℕ, List, ◌++◌, length, flat_map}
use Rattle.std.specs.List.{All}

-- the entries, and how many more are sure to find room
pub record SegmentedView (T : Type 0) : Type 0 where
  pub items : List T
  pub room : ℕ

-- the entries of full segments and of the last one, one behind the other
abbrev pub joined : {T : Type 0} → List (List T) → List T → List T
joined full last = flat_map (λ segment. segment) full ++ last

-- All segments but the last are full, and are so few that their entries can be counted.
pub record IsSegmented {T : Type 0} (full : List (List T)) (last : List T) : Type 0 where
  pub lengths : All (λ segment. length segment ≡ 1024) full
  pub rest : length last ≤ 1024
  pub few : length full ≤ 2 ^ 32
