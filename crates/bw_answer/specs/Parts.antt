-- The parts into which the points and the scans of a batch are cut.
use Rattle.std.specs.Prelude.{◌≡◌, ℕ, ◌+◌, ◌-◌, ◌*◌, ◌<◌, ◌≤◌, ◌++◌, List, length, take, drop, flat_map}
use Rattle.bw_answer.specs.declared.parts.Span.{Span}
use Rattle.bw_answer.specs.declared.parts.Part.{Part}

-- what a list has in a span
abbrev pub elements_in : {X : Type 0} → Span → List X → List X
elements_in span xs = take (span.end - span.start) (drop span.start xs)

-- the places of a part of points and scans at these places
abbrev pub places_in : List ℕ → List ℕ → Part → List ℕ
places_in points scans part = elements_in part.points points ++ elements_in part.scans scans

-- the span lies within a list of this length
abbrev pub IsSpanOf : ℕ → Span → Type 0
IsSpanOf len span = (span.start ≤ span.end) × (span.end ≤ len)

-- a part of so many points and scans
abbrev pub IsPartOf : ℕ → ℕ → Part → Type 0
IsPartOf points scans part = IsSpanOf points part.points × IsSpanOf scans part.scans

-- at most an equal share of so many elements for each of so many parts, rounded up
abbrev pub IsShare : ℕ → ℕ → Span → Type 0
IsShare count len span = (span.end - span.start) * count < len + count

abbrev pub HasShares : ℕ → ℕ → ℕ → Part → Type 0
HasShares count points scans part = IsShare count points part.points × IsShare count scans part.scans

-- the spans of the parts make up each list of this length, one behind the other
abbrev pub Cover : (Part → Span) → ℕ → List Part → Type 0
Cover span len parts = (xs : List ℕ) → length xs ≡ len → flat_map (λ part. elements_in (span part) xs) parts ≡ xs
