-- An arena as contracts see it.
use Rattle.std.specs.Prelude.{ℕ, List, map}
use Rattle.bw_delta.specs.declared.deltas.Delta.{Delta}

-- the records, each with its link word, and how many more are sure to find room
pub record ArenaView : Type 0 where
  pub records : List (Delta × ℕ)
  pub room : ℕ

abbrev pub deltas_of : List (Delta × ℕ) → List Delta
deltas_of = map (λ entry. entry.0)

abbrev pub links_of : List (Delta × ℕ) → List ℕ
links_of = map (λ entry. entry.1)
