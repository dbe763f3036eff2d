-- Each atomic step of a board, split and join is one event of the core: one law for each kind.
use Rattle.std.specs.Prelude.{◌≡◌, ◌≢◌, ℕ, ◌+◌, ◌%◌, ◌^◌, ◌<◌, ◌≤◌, true, false, ◌==◌, List, [], ◌∷◌, ◌++◌, map, length, slice_index, slice_index_or, slice_set, Option, Some, None}
use mathlib.Core.Option.{none, some}
use lib.ListN.{get_elem?}
use prog.Atomic.{either}
use Rattle.atomic_table.specs.Table.{State, step, keeps, stepped}
use Rattle.bw_core.specs.declared.Event.{Event}
use Rattle.bw_core.specs.declared.Event.TheVariants.{Look, Link, Try, Follow, Claim, Split, Join, Replace}
use Rattle.bw_core.specs.declared.Played.{Played}
use Rattle.bw_core.specs.declared.Played.TheVariants.{Done, Lost}
use Rattle.bw_core.specs.World.{World, times, owns, posts_in, tries_in, seen_at}
use Rattle.bw_core.specs.Events.{under, Resumes}
use Rattle.bw_core.specs.Transitions.{Applies}
use Rattle.bw_board.specs.declared.table.Sight.{Sight}
use Rattle.bw_board.specs.Rule.{book_of, world, HasLawfulWorld}
use Rattle.bw_board.specs.Plays.{Seated, IsTop, LookTells, LinkTells, TryTells, FollowTells, ClaimTells, ReplaceTells, left_of, right_of, both_of, spent_sight}

-- a step finds n, and answers so
abbrev pub DoneWith : (ℕ → ℕ) → ℕ → Played → Type 0
DoneWith f n a = a ≡ Done (f n)

-- an exchange of `old` for `new` that finds n
abbrev pub Exchanges : ℕ → ℕ → ℕ → Played → Type 0
Exchanges old new n a = (n ≡ old → a ≡ Done new) × (n ≢ old → a ≡ Lost n)

-- the word after an exchange
abbrev pub word_after : ℕ → ℕ → ℕ → ℕ
word_after old new n = either (n == old) new n

-- the seat is live, and posts r, which it owns and has not posted, to the page p
pub record MayLink (v : Sight) (r p lost x : ℕ) : Type 0 where
  pub live : v.book.live ≡ true
  pub page : p < length v.first
  pub own : 0 < owns r v.book
  pub unposted : posts_in r v.book.posted ≡ 0
  pub resumes : Resumes v.book r p lost
  pub word : IsTop v p x

-- the seat is live and has r armed, with its link
pub record MayTry (v : Sight) (r p lost old new : ℕ) : Type 0 where
  pub live : v.book.live ≡ true
  pub armed : v.book.under ≡ Some (under r p lost true)
  pub old_is : old ≡ v.link
  pub new_is : new ≡ v.floor + r

-- the seat is live and saw r at page p
pub record MayFollow (v : Sight) (r p : ℕ) : Type 0 where
  pub live : v.book.live ≡ true
  pub page : p < length v.first
  pub seen : 0 < times r (seen_at v.book p)

-- the seat is live and idle, wasn't told yet, and claims pieces of k
pub record MayClaim (v : Sight) (k : ℕ) : Type 0 where
  pub live : v.book.live ≡ true
  pub idle : v.book.under ≡ None
  pub untold : v.book.told ≡ false
  pub piece : k ≡ v.piece
  pub records_fit : v.records ≤ 2 ^ 33
  pub piece_fits : v.piece ≤ 4096

-- the seat is live and idle, and didn't try the page p, which has a spare
pub record MayReplace (v : Sight) (p old new : ℕ) : Type 0 where
  pub live : v.book.live ≡ true
  pub idle : v.book.under ≡ None
  pub page : p < length v.first
  pub old_is : old ≡ slice_index v.first p
  pub new_is : slice_index_or v.spares p None ≡ Some new
  pub untried : tries_in p v.book.swaps ≡ 0

-- the table with a view in two
abbrev pub split_table : State ℕ Sight → ℕ → Sight → State ℕ Sight
split_table s id v = record {
  words = s.words;
  homes = s.homes;
  views = slice_set s.views id (left_of v) ++ right_of v ∷ [];
}

-- the table with two views in one
abbrev pub join_table : State ℕ Sight → ℕ → ℕ → Sight → Sight → State ℕ Sight
join_table s id other v w = record {
  words = s.words;
  homes = s.homes;
  views = slice_set (slice_set s.views id (both_of v w)) other spent_sight;
}

module _ (first : List ℕ) (floor records piece : ℕ) (spares : List (Option ℕ)) where
  abbrev pub Rule : State ℕ Sight → Type 0
  Rule = HasLawfulWorld first floor records piece spares

  -- the world that a table is, by its words and the books of its views
  abbrev pub world_of : (s : State ℕ Sight) → Rule s → World
  world_of s t = world first floor records piece spares t.next t.heads t.links (map book_of s.views)

  -- a table became another by this event, which keeps it lawful
  pub record GoesBy (s : State ℕ Sight) (t : Rule s) (e : Event) (s' : State ℕ Sight) (a : Played) : Type 0 where
    pub lawful : Rule s'
    pub applied : Applies (world_of s t) e (world_of s' lawful) a

  -- the table after the seat `id`, which is m and becomes w, made of the word i the word f of what it was
  abbrev pub table_after : ℕ → Seated → ℕ → (ℕ → ℕ) → Sight → State ℕ Sight → State ℕ Sight
  table_after id m i f w s = stepped s i (f (slice_index s.words i)) id m.1 w keeps

  -- a step of that kind at a lawful table: it goes by this event, `says` holds of the word found and of the event's answer,
  -- and `tells` of the word found and of the seat after
  pub record StepsBy (s : State ℕ Sight) (t : Rule s) (id : ℕ) (m : Seated) (i : ℕ) (f : ℕ → ℕ) (e : Event)
      (says : ℕ → Played → Type 0) (tells : ℕ → Seated → Type 0) : Type 0 where
    pub view : Sight
    pub answer : Played
    pub goes : GoesBy s t e (table_after id m i f view s) answer
    pub says_so : says (slice_index s.words i) answer
    pub tells_so : tells (slice_index s.words i) (view, m.1)

  -- whatever the lawful table is in which the seat `id` is m
  abbrev pub IsEvent : ℕ → Seated → ℕ → (ℕ → ℕ) → Event → (ℕ → Played → Type 0) → (ℕ → Seated → Type 0) → Type 0
  IsEvent id m i f e says tells = (s : State ℕ Sight) (t : Rule s) → get_elem? s.views id ≡ some m.0
      → StepsBy s t id m i f e says tells

  -- a load of a head is a look
  abbrev pub Looking : Type 0
  Looking = (slots id : ℕ) (m : Seated) (p : ℕ) → m.0.book.live ≡ true → p < length m.0.first
      → IsEvent id m (1 + p) (λ n. n) (Look id p) (DoneWith (λ n. n)) (LookTells (step slots (1 + p) 0 0 none) m)

  -- a store of a link is a link
  abbrev pub Linking : Type 0
  Linking = (slots id : ℕ) (m : Seated) (r p lost x : ℕ) → MayLink m.0 r p lost x
      → (let i : ℕ = 1 + (length m.0.first + r) in
      IsEvent id m i (λ _. x) (Link id r p) (DoneWith (λ _. x)) (λ _. LinkTells p lost (step slots i x 0 none) m x))

  -- an exchange of a head, from the record's link to its word, is a try
  abbrev pub Trying : Type 0
  Trying = (slots id : ℕ) (m : Seated) (r p lost old new : ℕ) → MayTry m.0 r p lost old new
      → IsEvent id m (1 + p) (word_after old new) (Try id r p) (Exchanges old new)
      (TryTells (step slots (1 + p) old new none) m)

  -- a load of the link of a record that was seen is a follow
  abbrev pub Following : Type 0
  Following = (slots id : ℕ) (m : Seated) (r p : ℕ) → MayFollow m.0 r p
      → (let i : ℕ = 1 + (length m.0.first + r) in
      IsEvent id m i (λ n. n) (Follow id r) (DoneWith (λ n. n)) (FollowTells (step slots i 0 0 none) m))

  -- an addition of the piece to the claim word is a claim
  abbrev pub Claiming : Type 0
  Claiming = (slots id : ℕ) (m : Seated) (k : ℕ) → MayClaim m.0 k
      → IsEvent id m 0 (λ n. (n + k) % 2 ^ 64) (Claim id) (DoneWith (λ n. n)) (ClaimTells (step slots 0 k 0 none) m)

  -- an exchange of a head, from the page's first word to its spare, is a replacement
  abbrev pub Replacing : Type 0
  Replacing = (slots id : ℕ) (m : Seated) (p old new : ℕ) → MayReplace m.0 p old new
      → IsEvent id m (1 + p) (word_after old new) (Replace id p) (Exchanges old new)
      (ReplaceTells (step slots (1 + p) old new none) m)

  -- one view that becomes two is a split
  abbrev pub Splitting : Type 0
  Splitting = (id : ℕ) (v : Sight) (s : State ℕ Sight) (t : Rule s) → get_elem? s.views id ≡ some v
      → v.book.live ≡ true → v.book.under ≡ None → 2 ≤ v.book.width
      → GoesBy s t (Split id) (split_table s id v) (Done (length s.views))

  -- two views that become one are a join
  abbrev pub Joining : Type 0
  Joining = (id other : ℕ) (v w : Sight) (s : State ℕ Sight) (t : Rule s) → get_elem? s.views id ≡ some v
      → get_elem? s.views other ≡ some w → other ≢ id → v.book.live ≡ true → w.book.live ≡ true
      → v.book.under ≡ None → w.book.under ≡ None → GoesBy s t (Join id other) (join_table s id other v w) (Done other)

-- the laws of every board
abbrev pub OfEachBoard : (List ℕ → ℕ → ℕ → ℕ → List (Option ℕ) → Type 0) → Type 0
OfEachBoard P = (first : List ℕ) (floor records piece : ℕ) (spares : List (Option ℕ)) →
    P first floor records piece spares
