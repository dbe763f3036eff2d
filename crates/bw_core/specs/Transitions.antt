-- Each event as a relation between worlds: where it is allowed, what it changes, and what it answers.
use Rattle.std.specs.Prelude.{◌≡◌, ◌≢◌, ℕ, ◌+◌, ◌^◌, ◌<◌, ◌≤◌, ◌⊎◌, true, false, List, [], ◌∷◌, ◌++◌, length, replicate, slice_index, slice_index_or, slice_set, Option, Some, None}
use mathlib.Core.Option.{some}
use lib.ListN.{get_elem?}
use Rattle.bw_core.specs.declared.BookView.{BookView}
use Rattle.bw_core.specs.declared.Event.{Event}
use Rattle.bw_core.specs.declared.Event.TheVariants.{Look, Link, Try, Follow, Claim, Split, Join, Replace}
use Rattle.bw_core.specs.declared.Played.{Played}
use Rattle.bw_core.specs.declared.Played.TheVariants.{Done, Lost, NotAllowed}
use Rattle.bw_core.specs.World.{World, Meets, Lawful, owns, posts_in, tries_in, times, seen_at, end_at, spare_at, top, spent}
use Rattle.bw_core.specs.Events.{world_with, under, book_after_look, book_after_link, book_after_win, book_after_loss, book_after_claim, book_without_pieces, left_book, right_book, book_after_join, book_after_swap, book_after_late_swap, Resumes}

-- the new records of the page, newest first, down to the first word below the floor, which is x
abbrev pub IsFresh : World → ℕ → List ℕ → ℕ → Type 0
IsFresh w page s x = Meets w.floor w.links (slice_index w.heads page) s x × (x < w.floor)

-- b is the book of this seat, and the seat is live
abbrev pub IsSeat : World → ℕ → BookView → Type 0
IsSeat w seat b = (get_elem? w.books seat ≡ some b) × (b.live ≡ true)

-- an event that is not allowed changes nothing
abbrev pub IsRefused : World → World → Played → Type 0
IsRefused w w' a = (w' ≡ w) × (a ≡ NotAllowed)

-- a look asks for a page
abbrev pub MayLook : World → ℕ → ℕ → BookView → Type 0
MayLook w seat page b = IsSeat w seat b × (page < length w.first)

-- it sees the whole chain of the page, and answers the head
abbrev pub Looks : World → ℕ → ℕ → World → Played → Type 0
Looks w seat page w' a = ((b : BookView) × (s : List ℕ) × (x : ℕ) × MayLook w seat page b × IsFresh w page s x
    × (w' ≡ world_with w w.heads w.links (slice_set w.books seat (book_after_look b page s x)))
    × (a ≡ Done (slice_index w.heads page)))
    ⊎ (((b : BookView) → MayLook w seat page b → ⊥) × IsRefused w w' a)

-- a link asks for an own record that is not posted, with nothing else under way
abbrev pub MayLink : World → ℕ → ℕ → ℕ → BookView → ℕ → Type 0
MayLink w seat rec page b lost = IsSeat w seat b × (page < length w.first) × (0 < owns rec b)
    × (posts_in rec b.posted ≡ 0) × Resumes b rec page lost

-- it stores the top of the seen chain as the record's link, and answers that word
abbrev pub Links : World → ℕ → ℕ → ℕ → World → Played → Type 0
Links w seat rec page w' a = ((b : BookView) × (lost : ℕ) × MayLink w seat rec page b lost
    × (w' ≡ world_with w w.heads (slice_set w.links rec (top w.floor (end_at b page) (seen_at b page)))
    (slice_set w.books seat (book_after_link b rec page lost)))
    × (a ≡ Done (top w.floor (end_at b page) (seen_at b page))))
    ⊎ (((b : BookView) (lost : ℕ) → MayLink w seat rec page b lost → ⊥) × IsRefused w w' a)

-- a try asks for an armed record
abbrev pub MayTry : World → ℕ → ℕ → ℕ → BookView → ℕ → Type 0
MayTry w seat rec page b lost = IsSeat w seat b × (b.under ≡ Some (under rec page lost true))

-- the head is still the record's link: the record becomes the head
abbrev pub Wins : World → ℕ → ℕ → ℕ → BookView → ℕ → World → Played → Type 0
Wins w seat rec page b lost w' a = (slice_index w.heads page ≡ slice_index w.links rec)
    × (w' ≡ world_with w (slice_set w.heads page (w.floor + rec)) w.links
    (slice_set w.books seat (book_after_win b rec page lost)))
    × (a ≡ Done (w.floor + rec))

-- the head is another word: the exchange is lost, and the present chain is seen
abbrev pub Loses : World → ℕ → ℕ → ℕ → BookView → ℕ → World → Played → Type 0
Loses w seat rec page b lost w' a = (s : List ℕ) × (x : ℕ) × (slice_index w.heads page ≢ slice_index w.links rec)
    × IsFresh w page s x
    × (w' ≡ world_with w w.heads w.links (slice_set w.books seat (book_after_loss b rec page lost s x)))
    × (a ≡ Lost (slice_index w.heads page))

-- it wins or loses
abbrev pub Tries : World → ℕ → ℕ → ℕ → World → Played → Type 0
Tries w seat rec page w' a = ((b : BookView) × (lost : ℕ) × MayTry w seat rec page b lost
    × (Wins w seat rec page b lost w' a ⊎ Loses w seat rec page b lost w' a))
    ⊎ (((b : BookView) (lost : ℕ) → MayTry w seat rec page b lost → ⊥) × IsRefused w w' a)

-- a follow asks for a record that the seat saw on some page
abbrev pub MayFollow : World → ℕ → ℕ → BookView → ℕ → Type 0
MayFollow w seat rec b page = IsSeat w seat b × (page < length w.first) × (0 < times rec (seen_at b page))

-- it answers the link, and changes nothing
abbrev pub Follows : World → ℕ → ℕ → World → Played → Type 0
Follows w seat rec w' a = ((b : BookView) × (page : ℕ) × MayFollow w seat rec b page × (w' ≡ w)
    × (a ≡ Done (slice_index w.links rec)))
    ⊎ (((b : BookView) (page : ℕ) → MayFollow w seat rec b page → ⊥) × IsRefused w w' a)

-- a claim asks for a seat with nothing under way, which was not told of no record left
abbrev pub MayClaim : World → ℕ → BookView → Type 0
MayClaim w seat b = IsSeat w seat b × (b.under ≡ None) × (b.told ≡ false)

-- the world after a claim that left the seat's book as c
abbrev pub world_after_claim : World → ℕ → BookView → World
world_after_claim w seat c = record w { next = w.next + w.piece; books = slice_set w.books seat c }

-- it takes the next piece, or the seat is told that there is none; the answer is the number of the next record
abbrev pub Claims : World → ℕ → World → Played → Type 0
Claims w seat w' a = ((b : BookView) × MayClaim w seat b
    × (((w.next < w.records) × (w' ≡ world_after_claim w seat (book_after_claim w.piece w.records w.next b)))
    ⊎ ((w.records ≤ w.next)
    × (w' ≡ world_after_claim w seat (book_without_pieces b))))
    × (a ≡ Done w.next))
    ⊎ (((b : BookView) → MayClaim w seat b → ⊥) × IsRefused w w' a)

-- a split asks for a seat with nothing under way, and a width to share
abbrev pub MaySplit : World → ℕ → BookView → Type 0
MaySplit w seat b = IsSeat w seat b × (b.under ≡ None) × (2 ≤ b.width)

-- it makes a new last book, and answers its number
abbrev pub Splits : World → ℕ → World → Played → Type 0
Splits w seat w' a = ((b : BookView) × MaySplit w seat b
    × (w' ≡ world_with w w.heads w.links (slice_set w.books seat (left_book b) ++ right_book b ∷ []))
    × (a ≡ Done (length w.books)))
    ⊎ (((b : BookView) → MaySplit w seat b → ⊥) × IsRefused w w' a)

-- a join asks for two seats with nothing under way
abbrev pub MayJoin : World → ℕ → ℕ → BookView → BookView → Type 0
MayJoin w into other b d = IsSeat w into b × IsSeat w other d × (other ≢ into) × (b.under ≡ None) × (d.under ≡ None)

-- one book gets what the other had, and the other is spent; the answer is the number of the other
abbrev pub Joins : World → ℕ → ℕ → World → Played → Type 0
Joins w into other w' a = ((b : BookView) × (d : BookView) × MayJoin w into other b d
    × (w' ≡ world_with w w.heads w.links (slice_set (slice_set w.books into (book_after_join w.first b d)) other spent))
    × (a ≡ Done other))
    ⊎ (((b d : BookView) → MayJoin w into other b d → ⊥) × IsRefused w w' a)

-- a replacement asks for a page with a spare, which the seat has not tried, and a seat with nothing under way
abbrev pub MayReplace : World → ℕ → ℕ → BookView → ℕ → Type 0
MayReplace w seat page b x = IsSeat w seat b × (b.under ≡ None) × (page < length w.first) × (spare_at w page ≡ Some x)
    × (tries_in page b.swaps ≡ 0)

-- the spare becomes the head where that is still the first word; else the seat came late, and sees the present chain
abbrev pub Replaces : World → ℕ → ℕ → World → Played → Type 0
Replaces w seat page w' a = ((b : BookView) × (spare : ℕ) × MayReplace w seat page b spare
    × (((slice_index w.heads page ≡ slice_index w.first page)
    × (w' ≡ world_with w (slice_set w.heads page spare) w.links (slice_set w.books seat (book_after_swap b page spare)))
    × (a ≡ Done spare))
    ⊎ ((s : List ℕ) × (x : ℕ) × (slice_index w.heads page ≢ slice_index w.first page) × IsFresh w page s x
    × (w' ≡ world_with w w.heads w.links (slice_set w.books seat (book_after_late_swap b page s x)))
    × (a ≡ Lost (slice_index w.heads page)))))
    ⊎ (((b : BookView) (spare : ℕ) → MayReplace w seat page b spare → ⊥) × IsRefused w w' a)

-- the event takes this world to that world with this answer
abbrev pub Applies : World → Event → World → Played → Type 0
Applies w (Look seat page) w' a = Looks w seat page w' a
Applies w (Link seat rec page) w' a = Links w seat rec page w' a
Applies w (Try seat rec page) w' a = Tries w seat rec page w' a
Applies w (Follow seat rec) w' a = Follows w seat rec w' a
Applies w (Claim seat) w' a = Claims w seat w' a
Applies w (Split seat) w' a = Splits w seat w' a
Applies w (Join into other) w' a = Joins w into other w' a
Applies w (Replace seat page) w' a = Replaces w seat page w' a

-- a link and a follow take no memory
abbrev pub TakesNoMemory : Event → Type 0
TakesNoMemory (Look seat page) = ⊥
TakesNoMemory (Link seat rec page) = Unit {0}
TakesNoMemory (Try seat rec page) = ⊥
TakesNoMemory (Follow seat rec) = Unit {0}
TakesNoMemory (Claim seat) = ⊥
TakesNoMemory (Split seat) = ⊥
TakesNoMemory (Join into other) = ⊥
TakesNoMemory (Replace seat page) = ⊥

-- the events, one after another, take this world to that world
abbrev pub Runs : World → List Event → World → Type 0
Runs w [] w' = w' ≡ w
Runs w (e ∷ es) w' = (m : World) × (a : Played) × Applies w e m a × Runs m es w'

-- the book that a world starts with
abbrev pub first_book : List ℕ → BookView
first_book first = record {
  live = true;
  owned = [];
  posted = [];
  under = None;
  seen = replicate (length first) [];
  ends = first;
  swaps = [];
  width = 1024;
  told = false;
}

-- the world before any event
abbrev pub start_world : List ℕ → ℕ → ℕ → ℕ → List (Option ℕ) → World
start_world first floor records piece spares = record {
  first = first;
  floor = floor;
  records = records;
  piece = piece;
  spares = spares;
  next = 0;
  heads = first;
  links = replicate records 0;
  books = first_book first ∷ [];
}

-- what `start` asks: the first words are below the floor, each record has a word, and a page's spare is below the floor
-- and not its first word
pub record CanStart (first : List ℕ) (floor records piece : ℕ) (spares : List (Option ℕ)) : Type 0 where
  pub first_low : (page : ℕ) → page < length first → slice_index first page < floor
  pub words_fit : floor + records ≤ 2 ^ 33
  pub some_piece : 0 < piece
  pub piece_fits : piece ≤ 4096
  pub spare_each_page : length spares ≡ length first
  pub spare_low : (page x : ℕ) → slice_index_or spares page None ≡ Some x → (x < floor) × (x ≢ slice_index first page)

-- what holds of a world at run time: it is lawful, and its numbers fit
pub record IsWorld (w : World) : Type 0 where
  pub lawful : Lawful w
  pub words_fit : w.floor + w.records ≤ 2 ^ 33
  pub piece_fits : w.piece ≤ 4096
  pub spare_each_page : length w.spares ≡ length w.first
