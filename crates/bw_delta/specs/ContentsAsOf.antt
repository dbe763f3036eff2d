-- A map as of a stamp, from stamped writes in any order, and what a batch makes of it.
use Rattle.std.specs.Prelude.{◌≡◌, ℕ, zero, suc, ◌+◌, ◌≤◌, List, [], ◌∷◌, take, Option, Some, None, if◌then◌else◌, ◌==◌}
use Rattle.bw_key.specs.Order.{KeyBytes}
use Rattle.bw_model.specs.Contents.{Contents}
use Rattle.bw_model.specs.Values.{ValueBytes}
use Rattle.bw_model.specs.Model.{written_at, contents_after}
use Rattle.bw_model.specs.declared.operations.Op.{Op}
use Rattle.bw_delta.specs.Writes.{WriteView}
use Rattle.bw_delta.specs.History.{action_at, HasDistinctStamps}
use Rattle.bw_delta.specs.Batches.{writes_of, writes_to}

-- the write with a stamp, if there is one
abbrev pub write_at : List WriteView → ℕ → Option WriteView
write_at [] stamp = None
write_at (w ∷ ws) stamp = if w.stamp == stamp then Some w else write_at ws stamp

-- what a write leaves, where there is a write
abbrev pub then_written : Option WriteView → Contents ValueBytes → Contents ValueBytes
then_written None m = m
then_written (Some w) m = written_at m w.key w.action

-- As of stamp 0 the map is the one at the start. As of the next stamp it is what the write with this stamp leaves
-- of the map as of this one.
unfoldable pub contents_as_of : Contents ValueBytes → List WriteView → ℕ → Contents ValueBytes
contents_as_of start writes zero = start
contents_as_of start writes (suc stamp) = then_written (write_at writes stamp) (contents_as_of start writes stamp)

-- At each key, what was written with stamps from base on is what the batch writes there.
pub record HoldsBatch (base : ℕ) (ops : List Op) (writes : List WriteView) : Type 0 where
  pub distinct : HasDistinctStamps writes
  pub same : (key : KeyBytes) (stamp : ℕ) → base ≤ stamp →
      action_at (writes_to key writes) stamp ≡ action_at (writes_to key (writes_of base ops)) stamp

-- As of base + i the map is the one after the first i operations of the batch, in whatever order its writes stand.
abbrev pub BatchIsReadInTurn : Type 0
BatchIsReadInTurn = (start : Contents ValueBytes) (writes : List WriteView) (base : ℕ) (ops : List Op) (i : ℕ) →
    HoldsBatch base ops writes →
    contents_as_of start writes (base + i) ≡ contents_after (take i ops) (contents_as_of start writes base)
