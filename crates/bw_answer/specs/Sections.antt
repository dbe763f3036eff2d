-- The sections of a batch into which answers are parted, and the replies in whose places they are put.
use Rattle.std.specs.Prelude.{◌≡◌, ℕ, ◌+◌, ◌-◌, ◌*◌, ◌^◌, ◌<◌, ◌≤◌, true, is_some, IfSome, ⊤}
use Rattle.std.specs.Prelude.{List, [], ◌∷◌, length, map, flat_map, replicate, slice_index_or}
use Rattle.std.specs.List.{AllByRecursion, slice_set}
use Rattle.std.specs.Option.{option_map_or}
use Rattle.std.specs.declared.vec.Vec.{Vec}
use Rattle.bw_model.specs.declared.operations.Reply.{Reply}
use Rattle.bw_model.specs.declared.operations.Reply.TheVariants.{Absent}
use Rattle.bw_answer.specs.declared.batch_reader.Answer.{Answer}
use Rattle.bw_answer.specs.declared.batch_reader.PartAnswers.{PartAnswers}
use Rattle.bw_answer.specs.declared.sections.Section.{Section}
use Rattle.bw_answer.specs.declared.sections.Cut.{Cut}

-- the answers of a section
abbrev pub answers_of : Section → List Answer
answers_of section = flat_map (λ list. list.items) section.lists.items

-- the answers of a part, those in one section after those in another
abbrev pub answers_in : PartAnswers → List Answer
answers_in part = flat_map (λ list. list.items) part.lists.items

-- Sections of at least one place each, which have so many places together or more, and fewer than there are numbers.
pub record IsCutOf (len : ℕ) (cut : Cut) : Type 0 where
  pub size : 0 < cut.size
  pub count : 0 < cut.count
  pub enough : len ≤ cut.count * cut.size
  pub room : cut.count * cut.size < 2 ^ 64

-- the answer is to the operation at one of so many places from this one on
abbrev pub IsAnswerFrom : ℕ → ℕ → Answer → Type 0
IsAnswerFrom start size answer = (start ≤ answer.place) × (answer.place < start + size)

-- The answers of each list are to places of a section: the first section begins at this place, each other behind the last.
abbrev pub ArePartedFrom : ℕ → ℕ → List (List Answer) → Type 0
ArePartedFrom start size [] = ⊤
ArePartedFrom start size (answers ∷ rest) =
    AllByRecursion (IsAnswerFrom start size) answers × ArePartedFrom (start + size) size rest

-- the first section begins at this place, and each other one so many places behind the one before
abbrev pub AreStartsFrom : ℕ → ℕ → List Section → Type 0
AreStartsFrom start size [] = ⊤
AreStartsFrom start size (section ∷ rest) = (section.start ≡ start) × AreStartsFrom (start + size) size rest

-- A list for each section of a batch, of answers in that section.
pub record AreBySection {W : Type 0} (cut : Cut) (lists : List (Vec Answer W)) : Type 0 where
  pub count : length lists ≡ cut.count
  pub parted : ArePartedFrom 0 cut.size (map (λ list. list.items) lists)

-- The sections of a batch, with answers in them.
pub record AreSectionsOf (cut : Cut) (sections : List Section) : Type 0 where
  pub count : length sections ≡ cut.count
  pub starts : AreStartsFrom 0 cut.size sections
  pub parted : ArePartedFrom 0 cut.size (map answers_of sections)

-- the replies that were made of a section
abbrev pub replies_in : Section → List Reply
replies_in section = option_map_or (λ list. list.items) section.replies []

abbrev pub HasReplies : Section → Type 0
HasReplies section = is_some section.replies ≡ true

-- the answers are to operations at the places of these replies, of which the first is at this place
abbrev pub ArePlacesFrom : ℕ → List Reply → List Answer → Type 0
ArePlacesFrom start replies = AllByRecursion (IsAnswerFrom start (length replies))

-- the replies from this place on, with each answer at its place
abbrev pub with_answers_from : ℕ → List Reply → List Answer → List Reply
with_answers_from start replies [] = replies
with_answers_from start replies (a ∷ rest) = with_answers_from start (slice_set replies (a.place - start) a.reply) rest

-- the section's replies were made, unless there was no memory for them
abbrev pub IsMade : ℕ → Section → Section → Type 0
IsMade size old new =
    let answered = with_answers_from old.start (replicate size Absent) (answers_of old) in
    IfSome new.replies (λ list. list.items ≡ answered)

-- so were those of each section
pub record AreAllMade (size : ℕ) (old new : List Section) : Type 0 where
  pub count : length new ≡ length old
  pub each : (i : ℕ) (d : Section) → i < length old → IsMade size (slice_index_or old i d) (slice_index_or new i d)

-- All sections have replies, and these are theirs, one behind the other.
pub record AreJoined (sections : List Section) (replies : List Reply) : Type 0 where
  pub made : AllByRecursion HasReplies sections
  pub same : replies ≡ flat_map replies_in sections
