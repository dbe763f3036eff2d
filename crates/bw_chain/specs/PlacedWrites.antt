-- The writes of a batch in another order than that of its operations.
use Rattle.std.specs.Prelude.{ℕ, ◌+◌, List, [], flat_map, Option, Some, None, slice_get}
use Rattle.bw_model.specs.declared.operations.Op.{Op}
use Rattle.bw_delta.specs.Batches.{stamped, write_of}
use Rattle.bw_delta.specs.Writes.{WriteView}

-- what an operation, if there is one, writes with a stamp
abbrev pub write_with : ℕ → Option Op → List WriteView
write_with stamp None = []
write_with stamp (Some op) = stamped stamp (write_of op)

-- the writes of the operations at these places: that of the one at place i has the stamp base + i
abbrev pub writes_at_places : ℕ → List Op → List ℕ → List WriteView
writes_at_places base ops = flat_map (λ place. write_with (base + place) (slice_get ops place))
