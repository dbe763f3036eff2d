-- What a seat that claims and posts has left to post.
use Rattle.std.specs.Prelude.{◌≡◌, ℕ, ◌+◌, ◌&&◌, nat_le, nat_lt}
use Rattle.bw_core.specs.World.{one_if, owns, posts_in}
use Rattle.bw_board.specs.Public.{SeatView}

-- the seat posted all that it owns, and nothing else
abbrev pub HasPostedAll : SeatView → Type 0
HasPostedAll v = (r : ℕ) → owns r v.book ≡ posts_in r v.book.posted

-- the seat posted all that it owns but the records from a number on, below another
abbrev pub HasLeft : SeatView → ℕ → ℕ → Type 0
HasLeft v from to = (r : ℕ) → owns r v.book ≡ posts_in r v.book.posted + one_if (nat_le from r && nat_lt r to)

-- the seat has the same board, width, records and posts as before
pub record SameWork (v w : SeatView) : Type 0 where
  pub same_board : w.board ≡ v.board
  pub same_width : w.book.width ≡ v.book.width
  pub same_told : w.book.told ≡ v.book.told
  pub same_owned : w.book.owned ≡ v.book.owned
  pub same_posted : w.book.posted ≡ v.book.posted
