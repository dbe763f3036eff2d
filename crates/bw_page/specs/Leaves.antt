-- Leaves as contracts see them.
use Rattle.std.specs.Prelude.{ℕ, List, ◌++◌, Option, Some, take, drop}
use Rattle.bw_key.specs.Order.{KeyBytes}
use Rattle.bw_page.specs.Pages.{below, first_key}

-- the bounds of a range of keys, the right neighbour, and the pairs
pub record LeafView (V : Type 0) : Type 0 where
  pub low : KeyBytes
  pub high : Option KeyBytes
  pub side : Option ℕ
  pub pairs : List (KeyBytes × V)

-- the pairs from place `keep` on, as the leaf that begins at the first of their keys
abbrev pub upper_leaf : {V : Type 0} → LeafView V → ℕ → LeafView V
upper_leaf leaf keep = record {
  low = first_key (drop keep leaf.pairs);
  high = leaf.high;
  side = leaf.side;
  pairs = drop keep leaf.pairs;
}

-- the leaf with the pairs before place `keep` alone
abbrev pub lower_leaf : {V : Type 0} → LeafView V → ℕ → LeafView V
lower_leaf leaf keep = record leaf { pairs = take keep leaf.pairs }

-- the leaf up to this key, before this right neighbour
abbrev pub narrowed_leaf : {V : Type 0} → LeafView V → KeyBytes → ℕ → LeafView V
narrowed_leaf leaf high side = record {
  low = leaf.low;
  high = Some high;
  side = Some side;
  pairs = below high leaf.pairs;
}

-- a leaf and its right neighbour as one
abbrev pub joined_leaf : {V : Type 0} → LeafView V → LeafView V → LeafView V
joined_leaf left right = record {
  low = left.low;
  high = right.high;
  side = right.side;
  pairs = left.pairs ++ right.pairs;
}
