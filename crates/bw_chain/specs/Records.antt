-- Records of writes.
use Rattle.std.specs.Prelude.{◌≡◌, ℕ, List, [], ◌∷◌, map, flat_map, Some, slice_get}
use Rattle.std.specs.List.{zip}
use Rattle.bw_delta.specs.Writes.{WriteView}
use Rattle.bw_delta.specs.declared.deltas.Delta.{Delta}
use Rattle.bw_delta.specs.declared.deltas.Delta.TheVariants.{Put, Split, Absorb, Removed, AddChild, DropChild}
use Rattle.bw_chain.specs.Chains.{Records}

-- the records of writes, with these links
abbrev pub put_records : List WriteView → List ℕ → Records
put_records writes links = zip (map Put writes) links

-- the same without links yet
abbrev pub unlinked : List WriteView → Records
unlinked = map (λ w. (Put w, 0))

-- changes as records, each with this link
abbrev pub with_link : ℕ → List Delta → Records
with_link link = map (λ d. (d, link))

abbrev pub writes_put : Delta → List WriteView
writes_put (Put w) = w ∷ []
writes_put (Split k to) = []
writes_put (Absorb base side) = []
writes_put (Removed left) = []
writes_put (AddChild k child) = []
writes_put (DropChild k) = []

-- the writes among records
abbrev pub writes_in : Records → List WriteView
writes_in = flat_map (λ r. writes_put r.0)

-- a change that is a write
abbrev pub IsPut : Delta → Type 0
IsPut (Put w) = Unit {0}
IsPut (Split k to) = ⊥
IsPut (Absorb base side) = ⊥
IsPut (Removed left) = ⊥
IsPut (AddChild k child) = ⊥
IsPut (DropChild k) = ⊥

-- the record at a place is a write
abbrev pub IsWrite : Records → ℕ → Type 0
IsWrite records place = (w : WriteView) × ((link : ℕ) × (slice_get records place ≡ Some (Put w, link)))

-- and this one, if it is one
abbrev pub IsWriteAt : Records → ℕ → WriteView → Type 0
IsWriteAt records place write =
    (w : WriteView) → (link : ℕ) → slice_get records place ≡ Some (Put w, link) → write ≡ w
