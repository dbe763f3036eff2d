-- A board and a seat as callers see them.
use Rattle.std.specs.Prelude.{◌≡◌, ◌≢◌, ℕ, Bool, ◌+◌, ◌^◌, ◌<◌, ◌≤◌, true, List, [], ◌∷◌, ◌++◌, length, EachIndex, slice_index, slice_set, Option, Some, None, slice_index_or, nat_lt}
use Rattle.std.specs.List.{AllByRecursion}
use Rattle.std.specs.List.Sorted.{IsStrictlyIncreasing}
use mathlib.Core.Option.{some}
use lib.ListN.{get_elem?}
use Rattle.atomic_table.specs.Table.{Me}
use Rattle.atomic_table.specs.Seated.{TableId}
use Rattle.bw_core.specs.declared.BookView.{BookView}
use Rattle.bw_core.specs.Keeping.{pairs_of}
use Rattle.bw_core.specs.World.{total, one_if, owns, posts_in, late, wins_in, IsLast, times, posts_at, seen_at, end_at, Meets, IsEnd}
use Rattle.bw_core.specs.Events.{post, book_after_swap, book_after_claim, left_book, right_book}
use Rattle.bw_core.specs.Transitions.{first_book}
use Rattle.bw_board.specs.declared.table.Origin.{Origin}
use Rattle.bw_board.specs.declared.table.Sight.{Sight}
use Rattle.bw_board.specs.Rule.{Moment}
use Rattle.bw_board.specs.Plays.{IsSane, lost_in}

pub record BoardView : Type 0 where
  pub table : TableId
  -- the word of each page when the board was opened
  pub first : List ℕ
  -- record r has the word floor + r
  pub floor : ℕ
  pub records : ℕ
  -- how many records a claim takes
  pub piece : ℕ
  -- for a page the word that may replace its first one; pages behind the end have none
  pub spares : List (Option ℕ)

pub record SeatView : Type 0 where
  pub board : BoardView
  pub book : BookView

pub record ClosedView : Type 0 where
  pub heads : List ℕ
  pub links : List ℕ
  pub swapped : List ℕ

-- a board of this table
abbrev pub board_view : TableId → List ℕ → ℕ → ℕ → ℕ → List (Option ℕ) → BoardView
board_view z first floor records piece spares = record {
  table = z;
  first = first;
  floor = floor;
  records = records;
  piece = piece;
  spares = spares;
}

-- what always holds of a board: it is what its table was opened with, its numbers fit, and there is a word for each page,
-- each record and the claims
pub record IsBoard (board : BoardView) (pages : ℕ) (key origin : Origin) : Type 0 where
  pub same_floor : board.floor ≡ key.floor
  pub same_records : board.records ≡ key.records
  pub same_piece : board.piece ≡ key.piece
  pub same_heads : origin.heads.items ≡ board.first
  pub same_spares : origin.spares.items ≡ board.spares
  pub pages_are : pages ≡ length board.first
  pub some_piece : 0 < board.piece
  pub piece_fits : board.piece ≤ 4096
  pub words_are : board.table.words ≡ 1 + (pages + board.records)
  pub words_fit : board.table.words < 2 ^ 63
  pub no_slots : board.table.slots ≡ 0
  pub records_fit : board.floor + board.records ≤ 2 ^ 33
  pub low : EachIndex board.first (λ p. slice_index board.first p < board.floor)

-- a board that was opened with these words and numbers, and its one seat
pub record IsOpened (heads : List ℕ) (floor records piece : ℕ) (spares : List (Option ℕ)) (board : BoardView)
    (seat : SeatView) : Type 0 where
  pub same_heads : board.first ≡ heads
  pub same_floor : board.floor ≡ floor
  pub same_records : board.records ≡ records
  pub same_piece : board.piece ≡ piece
  pub same_spares : board.spares ≡ spares
  -- it has every width, and owns nothing
  pub seat_is : seat ≡ record { board = board; book = first_book heads }

-- the two seats that a seat was split into
pub record AreHalves (seat left right : SeatView) : Type 0 where
  pub left_is : left ≡ record seat { book = left_book seat.book }
  pub right_is : right ≡ record seat { book = right_book seat.book }

-- a seat at this table, by what it knows
abbrev pub seat_view : TableId → Sight → SeatView
seat_view z v = record {
  board = board_view z v.first v.floor v.records v.piece v.spares;
  book = v.book;
}

-- what always holds of a seat, which knows `me` and has these numbers at run time: nothing is under way
pub record IsIdleSeat (me : Me ℕ Sight) (width : ℕ) (told : Bool) : Type 0 where
  pub no_slots : me.1 ≡ []
  pub live : me.0.book.live ≡ true
  pub idle : me.0.book.under ≡ None
  pub width_is : width ≡ me.0.book.width
  pub told_is : told ≡ me.0.book.told
  pub some_width : 0 < width
  pub small_width : width ≤ 1024
  pub sane : IsSane me.0

-- the seat has seen a chain of the page, which ends with all that it had seen there, and has this book of it
pub record Sees (v w : SeatView) (page : ℕ) (book : List ℕ → ℕ → BookView) : Type 0 where
  pub chain : List ℕ
  pub last : ℕ
  pub after : w ≡ record v { book = book chain last }
  pub longer : IsEnd (seen_at v.book page) chain
  pub is_last : IsLast v.board.first v.board.spares page last
  pub here : seen_at w.book page ≡ chain
  pub end_here : end_at w.book page ≡ last

abbrev pub seat_after_post : SeatView → ℕ → ℕ → ℕ → List ℕ → ℕ → SeatView
seat_after_post v r p lost s x = record v {
  book = record v.book {
    posted = v.book.posted ++ post r p lost ∷ [];
    seen = slice_set v.book.seen p (r ∷ s);
    ends = slice_set v.book.ends p x;
  };
}

-- the seat posted r to the page, over a chain that ends with all that it had seen there
pub record Posts (v w : SeatView) (r page lost : ℕ) : Type 0 where
  pub chain : List ℕ
  pub last : ℕ
  pub after : w ≡ seat_after_post v r page lost chain last
  pub longer : IsEnd (seen_at v.book page) chain
  pub is_last : IsLast v.board.first v.board.spares page last
  -- only another's post or replacement takes an exchange away
  pub few : lost ≤ length chain + late (slice_index v.board.first page) last

-- the seat replaced the page's first word by its spare
pub record Replaces (v w : SeatView) (page : ℕ) : Type 0 where
  pub spare : ℕ
  pub is_spare : slice_index_or v.board.spares page None ≡ Some spare
  pub after : w ≡ record v { book = book_after_swap v.book page spare }

-- the seat with the piece that begins at this record
abbrev pub seat_after_claim : SeatView → ℕ → SeatView
seat_after_claim v from = record v { book = book_after_claim v.board.piece v.board.records from v.book }

-- a lawful world of the seat's board, in which a seat has its book
abbrev pub MomentOf : SeatView → Type 0
MomentOf v = Moment v.board.first v.board.floor v.board.records v.board.piece v.board.spares v.book

-- each record of the board is some seat's, and no other seat's
pub record AllClaimed (v : SeatView) : Type 0 where
  pub moment : MomentOf v
  pub one_owner : (r : ℕ) → r < v.board.records → total (owns r) moment.books ≡ 1

-- the records from a number on, below another, are this seat's alone
pub record OwnsAlone (v : SeatView) (from to : ℕ) : Type 0 where
  pub moment : MomentOf v
  pub own : (r : ℕ) → from ≤ r → r < to → owns r v.book ≡ 1
  pub others : (r i : ℕ) (b : BookView) → from ≤ r → r < to → i ≢ moment.number → get_elem? moment.books i ≡ some b
      → owns r b ≡ 0

-- the page's chain ends in this word, which is below the floor
pub record EndsIn (floor : ℕ) (heads links : List ℕ) (p last : ℕ) : Type 0 where
  pub chain : List ℕ
  pub met : Meets floor links (slice_index heads p) chain last
  pub low : last < floor

-- the page's chain ends in some word below the floor, and has at most as many records as there are
pub record HasEnd (floor : ℕ) (heads links : List ℕ) (p : ℕ) : Type 0 where
  pub chain : List ℕ
  pub last : ℕ
  pub met : Meets floor links (slice_index heads p) chain last
  pub low : last < floor
  pub short : length chain ≤ length links

-- the page's chain, and whether it ends in another word than the first one: 1 where it does, and else 0
pub record EndsLate (first : List ℕ) (floor : ℕ) (heads links : List ℕ) (p times : ℕ) : Type 0 where
  pub chain : List ℕ
  pub last : ℕ
  pub met : Meets floor links (slice_index heads p) chain last
  pub low : last < floor
  pub is_late : times ≡ late (slice_index first p) last

-- the pages below n whose chains do not end in the first word, rising
pub record AreSwapped (first : List ℕ) (floor : ℕ) (heads links : List ℕ) (n : ℕ) (swapped : List ℕ) : Type 0 where
  pub rising : IsStrictlyIncreasing swapped
  pub within : AllByRecursion (λ p. p < n) swapped
  pub each_page : (p : ℕ) → p < n → EndsLate first floor heads links p (times p swapped)

-- the page's last chain: just the records that the seat posted there, each once, with all that it had seen there
pub record IsClosedPage (v : SeatView) (heads links swapped : List ℕ) (p : ℕ) : Type 0 where
  pub chain : List ℕ
  pub last : ℕ
  pub met : Meets v.board.floor links (slice_index heads p) chain last
  pub is_last : IsLast v.board.first v.board.spares p last
  -- it ends in the page's first word, or in its spare where the page is swapped, which one swap of the seat did
  pub swapped_is : times p swapped ≡ late (slice_index v.board.first p) last
  pub won_is : times p swapped ≡ wins_in p v.book.swaps
  pub posts : (r : ℕ) → times r chain ≡ posts_at p r v.book.posted
  pub once : (r : ℕ) → times r chain ≤ 1
  pub seen : IsEnd (seen_at v.book p) chain

-- the last words of the seat's board, and the pages whose first word was replaced, rising
pub record IsClosed (v : SeatView) (heads links swapped : List ℕ) : Type 0 where
  pub head_each_page : length heads ≡ length v.board.first
  pub link_each_record : length links ≡ v.board.records
  pub rising : IsStrictlyIncreasing swapped
  pub within : AllByRecursion (λ p. p < length v.board.first) swapped
  pub posted : (r : ℕ) → r < v.board.records → posts_in r v.book.posted ≡ 1
  pub each_page : (p : ℕ) → p < length v.board.first → IsClosedPage v heads links swapped p

-- it owns no record twice, and its posts lost at most as many exchanges as the records make pairs,
-- and one more for each record where first words may be replaced
pub record IsSound (v : SeatView) : Type 0 where
  pub own_once : (r : ℕ) → owns r v.book ≤ 1
  pub lost_few : lost_in v.book.posted ≤ pairs_of v.board.records + v.board.records
  pub lost_fewer : ((p : ℕ) → slice_index_or v.board.spares p None ≡ None)
      → lost_in v.book.posted ≤ pairs_of v.board.records

-- each record of the board is owned once and posted once, and nothing else is
pub record HasEach (v : SeatView) : Type 0 where
  pub owned : (r : ℕ) → owns r v.book ≡ one_if (nat_lt r v.board.records)
  pub posted : (r : ℕ) → posts_in r v.book.posted ≡ one_if (nat_lt r v.board.records)
