-- A key's home, of the leaves of lawful levels.
use Rattle.std.proofs.Common.{◌≡◌, ℕ, List, [], ap, ◌∙◌, subst}
use Rattle.std.specs.FinMap.{find, from_entries, get, get-from_entries}
use Rattle.bw_key.specs.Order.{KeyBytes, key_cmp, key_cmp_total, key_eq}
use Rattle.bw_delta.specs.Writes.{WriteView}
use Rattle.bw_delta.specs.Batches.{writes_to}
use Rattle.bw_delta.specs.History.{history, action_at, HasDistinctStamps}
use Rattle.bw_delta.specs.ContentsAsOf.{contents_as_of}
use Rattle.bw_delta.proofs.ContentsAsOf.{get_as_of}
use Rattle.bw_delta.proofs.Filters.{distinct_filter}
use Rattle.bw_level.specs.Slots.{Slot, slot_at}
use Rattle.bw_level.specs.Levels.{AreLevels, IsHome, row}
use Rattle.bw_level.specs.Reading.{pairs_under, writes_over, value_in, row_pairs, row_writes}
use Rattle.bw_level.proofs.LeafRowLemmas.{HasAt, HasKey, one_has, row_has}

module _ (slots : List Slot) (root : ℕ) (levels : List (List ℕ)) (lawful : AreLevels slots root levels) where
  -- the leaf level has at a key what the key's home has
  pub home_has : (key : KeyBytes) (p : ℕ) → IsHome slots levels key p → HasAt (row_pairs slots (row levels 0)) (pairs_under (slot_at slots p)) (row_writes slots (row levels 0)) (writes_over (slot_at slots p)) key
  home_has key p h = row_has slots 0 [] (row levels 0) p h.reached.state key (lawful.rows 0 h.reached.within) h.reached.in_level h.reached.is h.reached.from_low h.ends_above

  home_key : (key : KeyBytes) (p : ℕ) → IsHome slots levels key p → HasKey slots (row levels 0) key p
  home_key key p h = record { in_row = h.reached.in_level; state = h.reached.state; is = h.reached.is; from_low = h.reached.from_low; ends_above = h.ends_above }

  -- a key has one home
  pub one_home : (key : KeyBytes) (p q : ℕ) → IsHome slots levels key p → IsHome slots levels key q → p ≡ q
  one_home key p q h k = one_has slots 0 [] (row levels 0) key p q (lawful.rows 0 h.reached.within) (home_key key p h) (home_key key q k)

  module _ (distinct : HasDistinctStamps (row_writes slots (row levels 0))) where
    pub home_distinct : (key : KeyBytes) (p : ℕ) → IsHome slots levels key p → HasDistinctStamps (writes_to key (writes_over (slot_at slots p)))
    home_distinct key p h = subst HasDistinctStamps (home_has key p h).writes (distinct_filter (λ w. key_eq key w.key) (row_writes slots (row levels 0)) distinct)

    pub home_value : (key : KeyBytes) (p stamp : ℕ) → IsHome slots levels key p → get (contents_as_of (from_entries (row_pairs slots (row levels 0))) (row_writes slots (row levels 0)) stamp) key ≡ value_in (slot_at slots p) key stamp
    home_value key p stamp h =
        let has = home_has key p h in
        let pairs = row_pairs slots (row levels 0) in
        let writes = row_writes slots (row levels 0) in
        get_as_of (from_entries pairs) writes distinct stamp key
        ∙ ap (λ o. history o (action_at (writes_to key writes)) stamp) (get-from_entries key_cmp_total pairs key ∙ has.pairs)
        ∙ ap (λ (l : List WriteView). history (find key_cmp key (pairs_under (slot_at slots p))) (action_at l) stamp) has.writes
