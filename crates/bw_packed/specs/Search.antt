-- What a search by halves answers.
use Rattle.std.specs.Prelude.{◌≡◌, ℕ, ◌<◌, ◌≤◌, Bool, true, false, not, List, length, Result, MatchResult}
use Rattle.std.specs.List.{HoldsAt}
use Rattle.std.specs.List.Sorted.{IsPartitionedBy, IsPartitionPoint}
use Rattle.std.specs.Ordering.{is_lt}
use Rattle.bw_key.specs.Order.{KeyBytes, key_cmp}
use Rattle.bw_packed.specs.declared.sorted_search.Bound.{Bound}
use Rattle.bw_packed.specs.declared.sorted_search.Bound.TheVariants.{Lower, Upper}

-- what comes before the bound of a key: a key below it, or one that isn't above it
abbrev pub is_before : Bound → KeyBytes → KeyBytes → Bool
is_before Lower key other = is_lt (key_cmp other key)
is_before Upper key other = not (is_lt (key_cmp key other))

-- Where the elements that pass a test come first in a list, there are so many of them.
abbrev pub EndsAt : {X : Type 0} → (X → Bool) → List X → ℕ → Type 0
EndsAt p xs n = IsPartitionedBy p xs → IsPartitionPoint (λ x. p x ≡ true) (λ x. p x ≡ false) xs n

-- The first element that isn't below what is looked for, and whether it is that.
abbrev pub IsSearched : {X : Type 0} → (X → Bool) → (X → Bool) → List X → Result ℕ ℕ → Type 0
IsSearched below same xs r = MatchResult r
    (λ n. (n < length xs) × HoldsAt (λ x. same x ≡ true) xs n × EndsAt below xs n)
    (λ n. (n ≤ length xs) × (n < length xs → HoldsAt (λ x. same x ≡ false) xs n) × EndsAt below xs n)
