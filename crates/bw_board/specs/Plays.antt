-- What a seat knows of itself, and what each kind of atomic step tells it.
use Rattle.std.specs.Prelude.{◌≡◌, ◌≢◌, ℕ, ◌+◌, ◌^◌, ◌<◌, ◌≤◌, true, List, [], ◌∷◌, ◌++◌, length, slice_index, slice_set, slice_index_or, Some, None, ◌⊎◌}
use Rattle.std.specs.List.{AllByRecursion}
use Rattle.atomic_table.specs.Table.{Me, Step}
use Rattle.atomic_table.specs.Seated.{TableId}
use Rattle.atomic_table.specs.declared.shared.Seat.{Seat}
use Rattle.bw_core.specs.declared.Under.{Under}
use Rattle.bw_core.specs.declared.BookView.{BookView}
use Rattle.bw_core.specs.declared.Post.{Post}
use Rattle.bw_core.specs.Keeping.{pairs_of, SeesBoth}
use Rattle.bw_core.specs.World.{total, times, owns, posts_in, posts_at, seen_at, end_at, late, IsLast, top, IsEnd, spent}
use Rattle.bw_core.specs.Events.{book_after_swap, book_after_late_swap, book_after_claim, book_without_pieces, under, post, book_after_look, book_after_link, book_after_win, book_after_loss, left_book, right_book, book_after_join}
use Rattle.bw_board.specs.declared.table.Pair.{Pair}
use Rattle.bw_board.specs.declared.table.Sight.{Sight}
use Rattle.bw_board.specs.Rule.{Moment}

abbrev pub with_book : Sight → BookView → Sight
with_book v b = record v { book = b }

-- all exchanges that the posts lost
abbrev pub lost_in : List Post → ℕ
lost_in ps = total (λ x. x.lost) ps

-- what the rule makes true of a live seat's own view
pub record IsSane (v : Sight) : Type 0 where
  pub moment : Moment v.first v.floor v.records v.piece v.spares v.book
  pub joined_seen : (books : Pair) → v.joined ≡ Some books → SeesBoth v.first books.left books.right
  pub seen_each_page : length v.book.seen ≡ length v.first
  pub once : (p r : ℕ) → p < length v.first → times r (seen_at v.book p) ≤ 1
  pub low : (p : ℕ) → p < length v.first → AllByRecursion (λ r. r < v.records) (seen_at v.book p)
  pub few : (p : ℕ) → p < length v.first → length (seen_at v.book p) ≤ v.records
  pub fewer : (p r : ℕ) → p < length v.first → 0 < owns r v.book → posts_in r v.book.posted ≡ 0
      → length (seen_at v.book p) < v.records
  pub own_low : (r : ℕ) → 0 < owns r v.book → r < v.records
  pub seen_own : (p r : ℕ) → p < length v.first → posts_at p r v.book.posted ≤ times r (seen_at v.book p)
  pub some_width : 0 < v.book.width
  pub small_width : v.book.width ≤ 1024
  pub first_low : (p : ℕ) → p < length v.first → slice_index v.first p < v.floor
  pub end_each_page : length v.book.ends ≡ length v.first
  pub ends_low : (p : ℕ) → p < length v.first → end_at v.book p < v.floor
  pub ends_is : (p : ℕ) → p < length v.first → IsLast v.first v.spares p (end_at v.book p)
  pub under_few : (u : Under) → v.book.under ≡ Some u
      → u.lost ≤ length (seen_at v.book u.page) + late (slice_index v.first u.page) (end_at v.book u.page)
  pub own_one : (r : ℕ) → owns r v.book ≤ 1
  pub lost_few : lost_in v.book.posted ≤ pairs_of v.records + v.records
  pub lost_fewer : ((p : ℕ) → slice_index_or v.spares p None ≡ None) → lost_in v.book.posted ≤ pairs_of v.records

-- a seat's view, and its slots, of which there are none
abbrev pub Seated : Type 0
Seated = Me ℕ Sight

-- the seat is live, at a table of this identity with a word for each page, each record and the claims
pub record IsSeated (z : TableId) (s : Seat ℕ Sight) : Type 0 where
  pub table : s.table_id ≡ z
  pub words : z.words ≡ 1 + (length s.me.0.first + s.me.0.records)
  pub words_fit : z.words < 2 ^ 63
  pub no_slots : s.me.1 ≡ []
  pub live : s.me.0.book.live ≡ true

abbrev pub sight_after_link : Sight → ℕ → ℕ → ℕ → ℕ → Sight
sight_after_link v r p lost x = record v { link = x; book = book_after_link v.book r p lost }

-- the word is the top of the chain that the seat saw last at page p
abbrev pub IsTop : Sight → ℕ → ℕ → Type 0
IsTop v p n = n ≡ top v.floor (end_at v.book p) (seen_at v.book p)

-- the seat, which was v, has seen a chain of page p, with all that it had seen there, and has this book of it
pub record SeesChain (v w : Sight) (p : ℕ) (book : List ℕ → ℕ → BookView) : Type 0 where
  pub chain : List ℕ
  pub last : ℕ
  pub after : w ≡ with_book v (book chain last)
  pub longer : IsEnd (seen_at v.book p) chain
  pub is_last : IsLast v.first v.spares p last
  pub here : seen_at w.book p ≡ chain
  pub end_here : end_at w.book p ≡ last

-- the slots stay, and the rule is true of the view
pub record StaysSane (m m' : Seated) : Type 0 where
  pub slots : m'.1 ≡ m.1
  pub sane : IsSane m'.0

pub record LookTells (st : Step ℕ) (m : Seated) (n : ℕ) (m' : Seated) : Type 0 where
  pub stays : StaysSane m m'
  pub seen : (p : ℕ) → st.word ≡ 1 + p → p < length m.0.first → SeesChain m.0 m'.0 p (book_after_look m.0.book p)
  pub head : (p : ℕ) → st.word ≡ 1 + p → p < length m.0.first → IsTop m'.0 p n

-- the record r of page p, which has lost so often, gets the top of the seen chain
pub record LinkTells (p lost : ℕ) (st : Step ℕ) (m : Seated) (n : ℕ) (m' : Seated) : Type 0 where
  pub stays : StaysSane m m'
  pub linked : (r : ℕ) → st.word ≡ 1 + (length m.0.first + r) → m'.0 ≡ sight_after_link m.0 r p lost st.first

pub record TryTells (st : Step ℕ) (m : Seated) (n : ℕ) (m' : Seated) : Type 0 where
  pub stays : StaysSane m m'
  pub won : (r p lost : ℕ) → m.0.book.under ≡ Some (under r p lost true) → n ≡ st.first
      → m'.0 ≡ with_book m.0 (book_after_win m.0.book r p lost)
  pub lost : (r p lost : ℕ) → m.0.book.under ≡ Some (under r p lost true) → n ≢ st.first
      → SeesChain m.0 m'.0 p (book_after_loss m.0.book r p lost)
  pub head : (r p lost : ℕ) → m.0.book.under ≡ Some (under r p lost true) → n ≢ st.first → IsTop m'.0 p n

-- a chain that goes on with r was seen at page p: its word is that of what comes next
pub record FollowTells (st : Step ℕ) (m : Seated) (n : ℕ) (m' : Seated) : Type 0 where
  pub stays : StaysSane m m'
  pub same : m'.0 ≡ m.0
  pub found : (p r : ℕ) (front rest : List ℕ) → st.word ≡ 1 + (length m.0.first + r) → p < length m.0.first
      → seen_at m.0.book p ≡ front ++ r ∷ rest → (x : ℕ) × (n ≡ top m.0.floor x rest) × (x < m.0.floor)

-- the first word became the spare, or the seat came late, and saw a new record or the spare
pub record ReplaceTells (st : Step ℕ) (m : Seated) (n : ℕ) (m' : Seated) : Type 0 where
  pub stays : StaysSane m m'
  pub won : (p : ℕ) → st.word ≡ 1 + p → p < length m.0.first → n ≡ st.first
      → m'.0 ≡ with_book m.0 (book_after_swap m.0.book p st.second)
  pub late : (p : ℕ) → st.word ≡ 1 + p → p < length m.0.first → n ≢ st.first
      → SeesChain m.0 m'.0 p (book_after_late_swap m.0.book p)
  pub head : (p : ℕ) → st.word ≡ 1 + p → p < length m.0.first → n ≢ st.first → IsTop m'.0 p n
  pub more : (p : ℕ) → st.word ≡ 1 + p → p < length m.0.first → n ≢ st.first
      → (0 < length (seen_at m'.0.book p)) ⊎ (slice_index_or m.0.spares p None ≡ Some (end_at m'.0.book p))

-- the next piece, or that there is none
pub record ClaimTells (st : Step ℕ) (m : Seated) (n : ℕ) (m' : Seated) : Type 0 where
  pub stays : StaysSane m m'
  pub taken : n < m.0.records → m'.0 ≡ with_book m.0 (book_after_claim m.0.piece m.0.records n m.0.book)
  pub told : m.0.records ≤ n → m'.0 ≡ with_book m.0 (book_without_pieces m.0.book)

-- nothing but what the rule makes true of the view
pub record SettleTells (st : Step ℕ) (m : Seated) (n : ℕ) (m' : Seated) : Type 0 where
  pub stays : StaysSane m m'
  pub same : m'.0 ≡ m.0

abbrev pub left_of : Sight → Sight
left_of v = with_book v (left_book v.book)

abbrev pub right_of : Sight → Sight
right_of v = with_book v (right_book v.book)

abbrev pub both_of : Sight → Sight → Sight
both_of v w = record v {
  joined = Some (record { left = v.book; right = w.book });
  book = book_after_join v.first v.book w.book;
}

abbrev pub spent_sight : Sight
spent_sight = record {
  first = [];
  floor = 0;
  records = 0;
  piece = 0;
  spares = [];
  link = 0;
  joined = None;
  book = spent;
}

-- the book of a seat that posted r over the chain s of page p, which the word e ends
abbrev pub book_after_post : BookView → ℕ → ℕ → ℕ → List ℕ → ℕ → BookView
book_after_post b r p lost s e = record b {
  posted = b.posted ++ post r p lost ∷ [];
  under = None;
  seen = slice_set b.seen p (r ∷ s);
  ends = slice_set b.ends p e;
}

-- the record r was posted to page p over a chain with all that the seat had seen there, and lost so many exchanges
pub record PostsOver (v w : Sight) (r p lost : ℕ) : Type 0 where
  pub chain : List ℕ
  pub last : ℕ
  pub link : ℕ
  pub after : w ≡ record v { link = link; book = book_after_post v.book r p lost chain last }
  pub longer : IsEnd (seen_at v.book p) chain
  pub is_last : IsLast v.first v.spares p last
  pub few : lost ≤ length chain + late (slice_index v.first p) last
