-- The leaves of tests as contracts see them.
use Rattle.std.specs.Prelude.{[], ◌∷◌, Some, None}
use Rattle.bw_model.specs.Values.{ValueBytes}
use Rattle.bw_page.specs.Leaves.{LeafView}

-- up to `c`, with page 1 at its right: a 1, b 2
abbrev pub leaf_up_to_c : LeafView ValueBytes
leaf_up_to_c = record {
  low = [];
  high = Some (99 ∷ []);
  side = Some 1;
  pairs = (97 ∷ [], 49 ∷ []) ∷ (98 ∷ [], 50 ∷ []) ∷ [];
}

-- from `c` on and below `e`, with page 2 at its right: this value at `c`
abbrev pub leaf_from_c : ValueBytes → LeafView ValueBytes
leaf_from_c bytes = record {
  low = 99 ∷ [];
  high = Some (101 ∷ []);
  side = Some 2;
  pairs = (99 ∷ [], bytes) ∷ [];
}

-- from `e` on: e 5
abbrev pub leaf_from_e : LeafView ValueBytes
leaf_from_e = record {
  low = 101 ∷ [];
  high = None;
  side = None;
  pairs = (101 ∷ [], 53 ∷ []) ∷ [];
}

-- of all keys: this value at `a`
abbrev pub whole_leaf : ValueBytes → LeafView ValueBytes
whole_leaf bytes = record {
  low = [];
  high = None;
  side = None;
  pairs = (97 ∷ [], bytes) ∷ [];
}
