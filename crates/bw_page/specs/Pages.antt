-- What all pages have in common: the entries of a range of keys.
use Rattle.std.specs.Prelude.{◌≡◌, ℕ, List, [], ◌∷◌, Option, is_some, T}
use Rattle.std.specs.List.{list_all}
use Rattle.std.specs.Ordering.{is_lt}
use Rattle.std.specs.FinMap.{is_sorted}
use Rattle.std.specs.FinMap.Entries.{where_key}
use Rattle.bw_key.specs.Order.{KeyBytes, key_cmp}
use Rattle.bw_model.specs.Contents.{is_below_end, is_pair_in_range}

-- the ends of a range of keys, and the right neighbour
pub record BoundsView : Type 0 where
  pub low : KeyBytes
  pub high : Option KeyBytes
  pub side : Option ℕ

-- Keys strictly rise inside a range that has a key. A right neighbour is there exactly where an upper end is.
pub record IsPage {V : Type 0} (low : KeyBytes) (high : Option KeyBytes) (side : Option ℕ)
    (entries : List (KeyBytes × V)) : Type 0 where
  pub sorted : T (is_sorted key_cmp entries)
  pub inside : T (list_all (is_pair_in_range low high) entries)
  pub wide : T (is_below_end high low)
  pub linked : is_some side ≡ is_some high

-- the key of the first entry, and the empty key where there is none
abbrev pub first_key : {V : Type 0} → List (KeyBytes × V) → KeyBytes
first_key [] = []
first_key (e ∷ es) = e.0

-- there is a first entry, and this is its key
abbrev pub BeginsAt : {V : Type 0} → KeyBytes → List (KeyBytes × V) → Type 0
BeginsAt key [] = ⊥
BeginsAt key (e ∷ es) = e.0 ≡ key

-- the entries below a key
abbrev pub below : {V : Type 0} → KeyBytes → List (KeyBytes × V) → List (KeyBytes × V)
below k es = where_key key_cmp (λ x. is_lt (key_cmp x k)) es
