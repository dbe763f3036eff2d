-- Keys and values in one entry each.
use Rattle.std.specs.Prelude.{ℕ, ◌<◌, ◌≤◌, ◌^◌, Bool, List, ◌&&◌, length, nat_eq, take, drop}
use Rattle.std.specs.Cmp.{IsEquivalence, IsPartialEquivalence, partial_equiv_from_equiv, and_equiv, on_equiv}
use Rattle.std.specs.Cmp.Lexicographic.{pointwise, lists_equiv, nat_list_eq_equiv}
use Rattle.bw_key.specs.Order.{KeyBytes, key_eq, key_eq_equiv}

-- The first bytes of an entry, as many as its tag says, are the key, and the rest are the value.
abbrev pub pair_of : List ℕ × ℕ → KeyBytes × List ℕ
pair_of e = (take e.1 e.0, drop e.1 e.0)

-- the same key and the same value
abbrev pub pair_eq : KeyBytes × List ℕ → KeyBytes × List ℕ → Bool
pair_eq x y = key_eq x.0 y.0 && pointwise nat_eq x.1 y.1

-- pair by pair
abbrev pub pairs_eq : List (KeyBytes × List ℕ) → List (KeyBytes × List ℕ) → Bool
pairs_eq = pointwise pair_eq

pub pairs_eq_equiv : IsEquivalence pairs_eq
pairs_eq_equiv = lists_equiv (and_equiv (on_equiv (λ (pair : KeyBytes × List ℕ). pair.0) key_eq_equiv)
    (on_equiv (λ (pair : KeyBytes × List ℕ). pair.1) nat_list_eq_equiv))

pub pairs_eq_laws : IsPartialEquivalence pairs_eq
pairs_eq_laws = partial_equiv_from_equiv pairs_eq_equiv

-- a range of the places of a list
pub record ArePlacesOf {X : Type 0} (start end : ℕ) (xs : List X) : Type 0 where
  pub rising : start ≤ end
  pub within : end ≤ length xs
  pub fits : end < 2 ^ 64
