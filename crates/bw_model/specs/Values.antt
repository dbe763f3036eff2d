-- Values. A value is the list of its bytes.
use Rattle.std.specs.Prelude.{ℕ, Bool, List, nat_eq}
use Rattle.std.specs.Cmp.{IsEquivalence, IsPartialEquivalence, partial_equiv_from_equiv}
use Rattle.std.specs.Cmp.Lexicographic.{pointwise, nat_list_eq_equiv}
use Rattle.bw_key.specs.Order.{KeyBytes}

-- a value, as contracts see it
abbrev pub ValueBytes : Type 0
ValueBytes = List ℕ

-- a key and its value
abbrev pub Pair : Type 0
Pair = KeyBytes × ValueBytes

-- two values are equal where they have the same bytes
abbrev pub value_eq : ValueBytes → ValueBytes → Bool
value_eq = pointwise nat_eq

pub value_eq_equiv : IsEquivalence value_eq
value_eq_equiv = nat_list_eq_equiv

pub value_eq_laws : IsPartialEquivalence value_eq
value_eq_laws = partial_equiv_from_equiv nat_list_eq_equiv
