-- The operations of a batch that read or write one key each, with their places in the batch.
use Rattle.std.specs.Prelude.{◌≡◌, ℕ, ◌+◌, ◌-◌, ◌≤◌, Bool, true, false, List, [], ◌∷◌, ◌++◌, length, take, drop}
use Rattle.std.specs.Prelude.{Option, Some, None, is_some, filter, map, slice_get, slice_index_or}
use Rattle.std.specs.List.{AllByRecursion, list_any}
use Rattle.std.specs.Option.{option_map}
use Rattle.std.specs.Ordering.{is_lt}
use Rattle.std.specs.List.Sorted.{IsPermutation, IsSortedBy}
use Rattle.bw_key.specs.Order.{KeyBytes, key_cmp, key_eq}
use Rattle.bw_model.specs.declared.operations.Op.{Op}
use Rattle.bw_model.specs.declared.operations.Op.TheVariants.{Get, Insert, Upsert, Update, Delete, SwapIf, Scan, Rscan}
use Rattle.bw_model.specs.Model.{key_of}
use Rattle.bw_model.specs.Verbs.{verb_of}
use Rattle.bw_delta.specs.Batches.{write_of, writes_of}
use Rattle.bw_group.specs.declared.points.Point.{Point}

-- a key, and the place of an operation on it
abbrev pub Entry : Type 0
Entry = KeyBytes × ℕ

abbrev pub entry_at : ℕ → Option KeyBytes → List Entry
entry_at place None = []
entry_at place (Some key) = (key, place) ∷ []

-- the operations on one key each, the first of them at this place
abbrev pub entries_from : ℕ → List Op → List Entry
entries_from place [] = []
entries_from place (op ∷ ops) = entry_at place (key_of op) ++ entries_from (place + 1) ops

-- the place of an operation without a key
abbrev pub scan_place : ℕ → Option KeyBytes → List ℕ
scan_place place None = place ∷ []
scan_place place (Some key) = []

-- the places of the operations without a key, the first operation at this place
abbrev pub scans_from : ℕ → List Op → List ℕ
scans_from place [] = []
scans_from place (op ∷ ops) = scan_place place (key_of op) ++ scans_from (place + 1) ops

-- what a list of points says
abbrev pub entries_of : List Point → List Entry
entries_of = map (λ p. (p.key.now, p.place))

-- what the points from one place on and before another say
abbrev pub entries_in : List Point → ℕ → ℕ → List Entry
entries_in points start end = entries_of (take (end - start) (drop start points))

-- the key of the point at this place, and past the last place that of d
abbrev pub key_at : List Point → ℕ → Point → KeyBytes
key_at points place d = (slice_index_or points place d).key.now

-- and its place in the batch
abbrev pub place_at : List Point → ℕ → Point → ℕ
place_at points place d = (slice_index_or points place d).place

-- the places of entries
abbrev pub places_of : List Entry → List ℕ
places_of = map (λ e. e.1)

-- the entries of a key
abbrev pub entries_at : KeyBytes → List Entry → List Entry
entries_at key es = filter (λ e. key_eq key e.0) es

-- an entry of this key
abbrev pub HasKey : KeyBytes → Entry → Type 0
HasKey key e = key_eq key e.0 ≡ true

-- whether an operation, if there is one, writes
abbrev pub is_write : Option Op → Bool
is_write None = false
is_write (Some op) = is_some (write_of op)

-- whether an operation is a delete
abbrev pub is_delete : Op → Bool
is_delete (Get key) = false
is_delete (Insert key v) = false
is_delete (Upsert key v) = false
is_delete (Update key v) = false
is_delete (Delete key) = true
is_delete (SwapIf key old new) = false
is_delete (Scan from to most) = false
is_delete (Rscan from to most) = false

-- of these places those of operations that write
abbrev pub writing : List Op → List ℕ → List ℕ
writing ops = filter (λ place. is_write (slice_get ops place))

-- the same entries of each key, in the same order
abbrev pub HaveSameOfKeys : List Entry → List Entry → Type 0
HaveSameOfKeys es fs = (key : KeyBytes) → entries_at key es ≡ entries_at key fs

-- the places strictly rise, from low on
abbrev pub HasRisingPlaces : ℕ → List Entry → Type 0
HasRisingPlaces low [] = Unit {0}
HasRisingPlaces low (e ∷ es) = (low ≤ e.1) × HasRisingPlaces (e.1 + 1) es

-- each entry is that of an operation of the batch
abbrev pub IsEntryOf : List Op → Entry → Type 0
IsEntryOf ops e = option_map key_of (slice_get ops e.1) ≡ Some (Some e.0)

-- the point says the verb of the operation at its place
abbrev pub IsPointOf : List Op → Point → Type 0
IsPointOf ops p = option_map verb_of (slice_get ops p.place) ≡ Some p.verb

-- the operation at this place has no key
abbrev pub IsScanOf : List Op → ℕ → Type 0
IsScanOf ops place = option_map key_of (slice_get ops place) ≡ Some None

-- the operations of a batch, those on one key each, and the places of the others
pub record GroupingView : Type 0 where
  pub ops : List Op
  pub points : List Entry
  pub scans : List ℕ

abbrev pub grouping_view : List Op → List Point → List ℕ → GroupingView
grouping_view ops points scans = record { ops = ops; points = entries_of points; scans = scans }

-- The points are those of the operations, in the order of their keys; those of one key are in the order of the batch.
pub record AreGrouped (batch : GroupingView) : Type 0 where
  pub sorted : IsSortedBy (λ d e. is_lt (key_cmp d.0 e.0)) batch.points
  pub same : HaveSameOfKeys batch.points (entries_from 0 batch.ops)
  pub scans : batch.scans ≡ scans_from 0 batch.ops

-- a batch with its points, its scans, how many of its operations write, and whether one is a delete
pub record IsGrouping (ops : List Op) (points : List Point) (scans : List ℕ) (write_count : ℕ) (has_deletes : Bool) : Type 0 where
  pub grouped : AreGrouped (grouping_view ops points scans)
  pub permuted : IsPermutation (entries_from 0 ops) (entries_of points)
  pub verbs : AllByRecursion (IsPointOf ops) points
  pub writes : write_count ≡ length (writes_of 0 ops)
  pub deletes : has_deletes ≡ list_any is_delete ops
