-- The pairs that a replay has now: those of a base, with changes over them.
use Rattle.std.specs.Prelude.{not, List, [], ◌∷◌, Option, Some, None}
use Rattle.std.specs.Ordering.{eq_by_cmp}
use Rattle.std.specs.FinMap.Entries.{put, where_key}
use Rattle.bw_key.specs.Order.{KeyBytes, key_cmp}
use Rattle.bw_model.specs.Values.{Pair, ValueBytes}
use Rattle.bw_delta.specs.declared.present.Base.{Base}
use Rattle.bw_delta.specs.declared.present.Base.TheVariants.{Lent, Made}
use Rattle.bw_delta.specs.declared.present.Present.{Present}

-- a key that was changed, and its value now, if it has one
abbrev pub Change : Type 0
Change = KeyBytes × Option ValueBytes

-- sorted pairs with the value at the key, or without the key
abbrev pub with_change : Change → List Pair → List Pair
with_change (key, Some value) pairs = put key_cmp key value pairs
with_change (key, None) pairs = where_key key_cmp (λ q. not (eq_by_cmp key_cmp key q)) pairs

-- with several changes, each at a key of its own
abbrev pub changed_pairs : List Change → List Pair → List Pair
changed_pairs [] pairs = pairs
changed_pairs (change ∷ changes) pairs = with_change change (changed_pairs changes pairs)

abbrev pub base_pairs : Base → List Pair
base_pairs (Lent leaf) = leaf.now.pairs
base_pairs (Made leaf) = leaf.pairs

abbrev pub present_pairs : Present → List Pair
present_pairs present = changed_pairs present.changes.entries (base_pairs present.base)
