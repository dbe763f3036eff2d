-- The rule of the board's table: its words and its seats' books are a lawful world.
use Rattle.std.specs.Prelude.{◌≡◌, ℕ, true, List, ◌∷◌, ◌++◌, map, slice_index, Some, None, Option}
use mathlib.Core.Option.{some}
use lib.ListN.{get_elem?}
use Rattle.atomic_table.specs.Table.{State}
use Rattle.bw_core.specs.declared.Under.{Under}
use Rattle.bw_core.specs.declared.BookView.{BookView}
use Rattle.bw_core.specs.World.{World, Lawful}
use Rattle.bw_core.specs.Transitions.{first_book}
use Rattle.bw_core.specs.Keeping.{SeesBoth}
use Rattle.bw_board.specs.declared.table.Pair.{Pair}
use Rattle.bw_board.specs.declared.table.Sight.{Sight}

abbrev pub book_of : Sight → BookView
book_of v = v.book

module _ (first : List ℕ) (floor records piece : ℕ) (spares : List (Option ℕ)) where
  abbrev pub world : ℕ → List ℕ → List ℕ → List BookView → World
  world next hs ls bs = record {
    first = first;
    floor = floor;
    records = records;
    piece = piece;
    spares = spares;
    next = next;
    heads = hs;
    links = ls;
    books = bs;
  }

  -- what a live seat knows of the board
  pub record KnowsBoard (links : List ℕ) (v : Sight) : Type 0 where
    pub same_first : v.first ≡ first
    pub same_floor : v.floor ≡ floor
    pub same_records : v.records ≡ records
    pub same_piece : v.piece ≡ piece
    pub same_spares : v.spares ≡ spares
    pub armed_link : (u : Under) → v.book.under ≡ Some u → u.armed ≡ true → slice_index links u.rec ≡ v.link
    pub joined_seen : (books : Pair) → v.joined ≡ Some books → SeesBoth first books.left books.right

  -- word 0 is the next record to claim, then come the heads and the links; with the seats' books they are a lawful world
  pub record HasLawfulWorld (s : State ℕ Sight) : Type 0 where
    pub next : ℕ
    pub heads : List ℕ
    pub links : List ℕ
    pub words_are : s.words ≡ next ∷ (heads ++ links)
    pub lawful : Lawful (world next heads links (map book_of s.views))
    pub each_seat : (i : ℕ) (v : Sight) → get_elem? s.views i ≡ some v → v.book.live ≡ true → KnowsBoard links v

  -- a lawful world of a board, in which the seat `number` has this book
  pub record Moment (book : BookView) : Type 0 where
    pub next : ℕ
    pub heads : List ℕ
    pub links : List ℕ
    pub books : List BookView
    pub lawful : Lawful (world next heads links books)
    pub number : ℕ
    pub here : get_elem? books number ≡ some book

  abbrev pub opening_sight : Sight
  opening_sight = record {
    first = first;
    floor = floor;
    records = records;
    piece = piece;
    spares = spares;
    link = 0;
    joined = None;
    book = first_book first;
  }
