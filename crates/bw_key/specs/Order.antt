-- The order of keys. A key is the list of its bytes.
use Rattle.std.specs.Prelude.{◌≡◌, ℕ, Bool, List, nat_eq, Some, refl}
use Rattle.std.specs.declared.cmp.Ordering.{Ordering}
use Rattle.std.specs.Ordering.{nat_cmp, as_partial_cmp, is_eq}
use Rattle.std.specs.Cmp.{IsTotalOrder, IsEquivalence, IsPartialEquivalence, IsPartialOrder, partial_equiv_from_equiv, partial_order_from_agreeing_total, unsigned_ties}
use Rattle.std.specs.Cmp.Lexicographic.{slice_cmp, pointwise, nat_list_cmp_total, nat_list_eq_equiv, lists_ties}

-- a key, as contracts see it
abbrev pub KeyBytes : Type 0
KeyBytes = List ℕ

-- Byte by byte as unsigned numbers: the first bytes that differ decide, the smaller being first, and a
-- key that begins another is before it.
abbrev pub key_cmp : KeyBytes → KeyBytes → Ordering
key_cmp = slice_cmp nat_cmp

-- two keys are equal where they have the same bytes
abbrev pub key_eq : KeyBytes → KeyBytes → Bool
key_eq = pointwise nat_eq

-- the order is total
pub key_cmp_total : IsTotalOrder key_cmp
key_cmp_total = nat_list_cmp_total

pub key_eq_equiv : IsEquivalence key_eq
key_eq_equiv = nat_list_eq_equiv

pub key_eq_laws : IsPartialEquivalence key_eq
key_eq_laws = partial_equiv_from_equiv nat_list_eq_equiv

-- keys that compare alike are equal, and the other way round
pub key_ties : (a b : KeyBytes) → key_eq a b ≡ is_eq (key_cmp a b)
key_ties = lists_ties nat_cmp unsigned_ties

pub key_cmp_agrees : (a b : KeyBytes) → as_partial_cmp key_cmp a b ≡ Some (key_cmp a b)
key_cmp_agrees a b = refl

pub key_cmp_laws : IsPartialOrder key_eq (as_partial_cmp key_cmp)
key_cmp_laws = partial_order_from_agreeing_total key_cmp key_cmp_total key_cmp_agrees key_ties
