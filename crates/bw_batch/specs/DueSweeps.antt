-- When records and stamps start over.
use Rattle.std.specs.Prelude.{ℕ, ◌+◌, ◌^◌, Bool, ◌||◌, nat_lt, if◌then◌else◌}
use Rattle.bw_batch.specs.View.{IndexView}

-- stamps or records would pass their ends with those of a batch of so many operations
abbrev pub is_sweep_due : IndexView → ℕ → Bool
is_sweep_due index ops =
    nat_lt (2 ^ 40) (index.next + ops) || nat_lt index.settings.record_max (index.records + ops)

-- the stamp of the first operation of such a batch, and how many records there are before it
abbrev pub base_of : IndexView → ℕ → ℕ
base_of index ops = if is_sweep_due index ops then 0 else index.next

abbrev pub records_before : IndexView → ℕ → ℕ
records_before index ops = if is_sweep_due index ops then 0 else index.records
