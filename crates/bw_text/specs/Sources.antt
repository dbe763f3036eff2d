-- What contracts see of a source, and what reading from it keeps.
use Rattle.std.specs.Prelude.{◌≡◌, ℕ, ◌-◌, ◌≤◌, Bool, true, List, Option, take, drop}
use Rattle.std.specs.Io.KnownBytes.{IsAtEnd, prepend_known}
use Rattle.bw_text.specs.Counts.{HasRisenBy}
use Rattle.bw_text.specs.declared.faults.TraceFault.{TraceFault}
use Rattle.bw_text.specs.declared.places.Place.{Place}

pub record SourceView : Type 0 where
  -- the bytes that were not parsed yet, where the reader says so
  pub unread : Option (List ℕ)
  -- where its next line stands
  pub place : Place
  -- the fault that it answers from now on
  pub fault : Option TraceFault
  -- how many calls of the reader it may make yet
  pub turns : ℕ
  -- how many bytes it may take in yet
  pub budget : ℕ
  -- whether it came to the end of its reader
  pub ended : Bool
  -- of its reader: the bytes that it has left, where it says so
  pub remaining : Option (List ℕ)
  pub calls : ℕ
  pub failures : ℕ
  pub has_ended : Bool

-- what a buffer has from `at` up to `len`, and what is left behind it
abbrev pub unread_of : List ℕ → ℕ → ℕ → Option (List ℕ) → Option (List ℕ)
unread_of buffer at len rest = prepend_known (take (len - at) (drop at buffer)) rest

-- it came to its end, and nothing is left
pub record HasEnded (s : SourceView) : Type 0 where
  pub ended : s.ended ≡ true
  pub nothing_left : IsAtEnd s.unread
  pub told : s.has_ended ≡ true

-- Each call of the reader is paid by a turn.
pub record ReadsOn (old new : SourceView) : Type 0 where
  pub turns : new.turns ≤ old.turns
  pub calls : HasRisenBy (old.turns - new.turns) old.calls new.calls
  pub budget : new.budget ≤ old.budget
