-- Writes that are sorted by key, and those of one key by their stamps.
use Rattle.std.specs.Prelude.{List}
use Rattle.std.specs.List.Sorted.{IsSortedBy}
use Rattle.std.specs.Ordering.{is_lt}
use Rattle.bw_key.specs.Order.{KeyBytes, key_cmp}
use Rattle.bw_delta.specs.Batches.{writes_to}
use Rattle.bw_delta.specs.Rising.{HasRisingStamps}
use Rattle.bw_delta.specs.Writes.{WriteView}

abbrev pub AreSortedByKey : List WriteView → Type 0
AreSortedByKey = IsSortedBy (λ v w. is_lt (key_cmp v.key w.key))

-- the stamps of the writes of each key rise
abbrev pub HaveRisingStamps : List WriteView → Type 0
HaveRisingStamps writes = (key : KeyBytes) → HasRisingStamps 0 (writes_to key writes)
