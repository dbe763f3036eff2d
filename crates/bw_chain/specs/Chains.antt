-- Chains of deltas over base pages.
use Rattle.std.specs.Prelude.{◌≡◌, ℕ, false, ◌-◌, ◌<◌, ◌≤◌, ◌^◌, if◌then◌else◌, nat_lt, Option, Some, None}
use Rattle.std.specs.Prelude.{List, [], ◌∷◌, length, map, slice_get}
use Rattle.bw_delta.specs.Writes.{WriteView}
use Rattle.bw_delta.specs.declared.deltas.Delta.{Delta}
use Rattle.bw_delta.specs.declared.deltas.Delta.TheVariants.{Put, Split, Absorb, Removed, AddChild, DropChild}
use Rattle.bw_level.specs.Walk.{Leads, walked, ended}
use Rattle.bw_level.specs.Slots.{Slot, is_leaf, side_of_slot}
use Rattle.bw_level.specs.Changes.{Bases, based, change}
use Rattle.bw_level.specs.Reading.{writes_over}

-- what deltas, the newest first, make of what lies under them
abbrev pub changed : Bases → List Delta → Slot → Slot
changed bases [] slot = slot
changed bases (d ∷ ds) slot = change bases d (changed bases ds slot)

-- A word below this one names a base page. One from there on names a record, which has a link word.
abbrev pub floor_word : ℕ
floor_word = 2 ^ 32

abbrev pub Records : Type 0
Records = List (Delta × ℕ)

abbrev pub linked_word : Option (Delta × ℕ) → Option ℕ
linked_word None = None
linked_word (Some r) = Some r.1

-- what words name
pub record ChainsView : Type 0 where
  pub bases : Bases
  pub records : Records

-- the record that a word names, if it names one
abbrev pub record_at : Records → ℕ → Option (Delta × ℕ)
record_at records word = if nat_lt word floor_word then None else slice_get records (word - floor_word)

-- the word that a record's link holds
abbrev pub link_of : Records → ℕ → Option ℕ
link_of records word = linked_word (record_at records word)

abbrev pub delta_in : Option (Delta × ℕ) → List Delta → List Delta
delta_in None ds = ds
delta_in (Some r) ds = r.0 ∷ ds

-- the deltas of records that words name
abbrev pub deltas_at : Records → List ℕ → List Delta
deltas_at records [] = []
deltas_at records (w ∷ ws) = delta_in (record_at records w) (deltas_at records ws)

-- what a mapping word leads to
abbrev pub slot_of_word : Bases → Records → ℕ → Slot
slot_of_word bases records word =
    let way = walked (link_of records) (length records) word in
    let base = ended (link_of records) (length records) word in
    changed bases (deltas_at records way) (based (slice_get bases base))

-- A chain over a base page is some writes, and under them at most one other change. An absorption names the right neighbour
-- that the base page has, and only an inner page gets a child. A removed page is a base page that says so.
abbrev pub IsShaped : Slot → List Delta → Type 0
IsShaped base [] = Unit {0}
IsShaped base (Put w ∷ ds) = IsShaped base ds
IsShaped base (Split k to ∷ ds) = ds ≡ []
IsShaped base (Absorb number side ∷ ds) = (ds ≡ []) × (side ≡ side_of_slot base)
IsShaped base (Removed left ∷ ds) = ⊥
IsShaped base (AddChild k child ∷ ds) = (ds ≡ []) × (is_leaf base ≡ false)
IsShaped base (DropChild k ∷ ds) = ds ≡ []

-- a word leads by links to a base page
pub record EndsAt (bases : Bases) (records : Records) (word : ℕ) (ws : List ℕ) (e : ℕ) : Type 0 where
  pub way : Leads (link_of records) word ws e
  pub short : length ws ≤ length records
  pub within : e < length bases
  pub limit : e < floor_word
  pub shaped : IsShaped (based (slice_get bases e)) (deltas_at records ws)

abbrev pub Ends : Bases → Records → ℕ → Type 0
Ends bases records word = (ws : List ℕ) × ((e : ℕ) × EndsAt bases records word ws e)

-- the present state of the page whose mapping word this is
abbrev pub page_at : ChainsView → ℕ → Slot
page_at chains word = slot_of_word chains.bases chains.records word

-- base pages, and no record
abbrev pub chains_over : Bases → ChainsView
chains_over bases = record { bases = bases; records = [] }

-- this word leads to a base page
abbrev pub IsChain : ChainsView → ℕ → Type 0
IsChain chains word = Ends chains.bases chains.records word

-- each mapping word leads by links to a base page
abbrev pub AllEnd : Bases → Records → List ℕ → Type 0
AllEnd bases records heads = (p word : ℕ) → slice_get heads p ≡ Some word → Ends bases records word

-- the present state of each page, by the words of a mapping table
abbrev pub slots_of : List ℕ → Bases → Records → List Slot
slots_of heads bases records = map (slot_of_word bases records) heads

-- the writes of the chain that begins at a word
abbrev pub writes_on : ChainsView → ℕ → List WriteView
writes_on chains word = writes_over (page_at chains word)
