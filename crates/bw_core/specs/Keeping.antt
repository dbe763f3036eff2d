-- One law for each event, over plain lists, and the law of whole runs.
use Rattle.std.specs.Prelude.{◌*◌, ◌/◌, ◌-◌, ◌↔◌, ◌&&◌, nat_le, nat_lt, min, ◌≡◌, ◌≢◌, ℕ, ◌+◌, ◌<◌, ◌≤◌, ◌⊎◌, true, false, List, [], ◌∷◌, ◌++◌, length, slice_index, slice_set, Option, Some, None}
use mathlib.Core.Option.{some}
use lib.ListN.{get_elem?}
use Rattle.bw_core.specs.declared.BookView.{BookView}
use Rattle.bw_core.specs.declared.Under.{Under}
use Rattle.bw_core.specs.declared.Event.{Event}
use Rattle.bw_core.specs.declared.Played.{Played}
use Rattle.bw_core.specs.declared.Played.TheVariants.{Done}
use Rattle.std.specs.List.{AllByRecursion}
use Rattle.bw_core.specs.World.{World, Lawful, Keeps, Armed, Meets, IsEnd, one_if, total, beneath, wins_in, owns, posts_in, posts_at, seen_at, end_at, spare_at, late, top, spent}
use Rattle.bw_core.specs.Events.{world_with, under, book_after_look, book_after_link, book_after_win, book_after_loss, book_after_claim, book_without_pieces, left_book, right_book, book_after_join, book_after_swap, book_after_late_swap}
use Rattle.bw_core.specs.Transitions.{IsFresh, IsSeat, Claims, Applies, Runs, CanStart, start_world, world_after_claim}

-- the chain that the law speaks of is the one that the heads and links give
abbrev pub FreshIsRead : Type 0
FreshIsRead = (w : World) (q : Lawful w) (page : ℕ) (s : List ℕ) (x : ℕ) → page < length w.first → IsFresh w page s x
    → (s ≡ q.fresh page) × (x ≡ q.last page)

-- a new world is lawful
abbrev pub StartIsLawful : Type 0
StartIsLawful = (first : List ℕ) (floor records piece : ℕ) (spares : List (Option ℕ))
    → CanStart first floor records piece spares → Lawful (start_world first floor records piece spares)

-- the page's whole chain is seen
abbrev pub LookKeeps : Type 0
LookKeeps = (w : World) (q : Lawful w) (seat : ℕ) (b : BookView) (page : ℕ) → get_elem? w.books seat ≡ some b
    → b.live ≡ true → page < length w.first
    → Keeps w q (world_with w w.heads w.links
    (slice_set w.books seat (book_after_look b page (q.fresh page) (q.last page))))

-- the top of the seen chain is stored as the link; the bound on `lost` is that of a record under way, and holds of a
-- new record, which has lost nothing
abbrev pub LinkKeeps : Type 0
LinkKeeps = (w : World) (q : Lawful w) (seat : ℕ) (b : BookView) (rec page lost : ℕ) → get_elem? w.books seat ≡ some b
    → b.live ≡ true → page < length w.first → 0 < owns rec b → posts_in rec b.posted ≡ 0
    → lost ≤ length (seen_at b page) + late (slice_index w.first page) (end_at b page)
    → Keeps w q (world_with w w.heads (slice_set w.links rec (top w.floor (end_at b page) (seen_at b page)))
    (slice_set w.books seat (book_after_link b rec page lost)))

-- the head is the armed record's link, and becomes the record's word
abbrev pub WinKeeps : Type 0
WinKeeps = (w : World) (q : Lawful w) (seat : ℕ) (b : BookView) (rec page lost : ℕ) → get_elem? w.books seat ≡ some b
    → b.under ≡ Some (under rec page lost true) → slice_index w.heads page ≡ slice_index w.links rec
    → Keeps w q (world_with w (slice_set w.heads page (w.floor + rec)) w.links
    (slice_set w.books seat (book_after_win b rec page lost)))

-- the head is another word, and the page's whole chain is seen
abbrev pub LoseKeeps : Type 0
LoseKeeps = (w : World) (q : Lawful w) (seat : ℕ) (b : BookView) (rec page lost : ℕ) → get_elem? w.books seat ≡ some b
    → b.under ≡ Some (under rec page lost true) → slice_index w.heads page ≢ slice_index w.links rec
    → Keeps w q (world_with w w.heads w.links (slice_set w.books seat (book_after_loss b rec page lost (q.fresh page)
    (q.last page))))

-- a follow changes nothing
abbrev pub FollowKeeps : Type 0
FollowKeeps = (w : World) (q : Lawful w) → Keeps w q w

-- a claim that finds records
abbrev pub ClaimKeepsPiece : Type 0
ClaimKeepsPiece = (w : World) (q : Lawful w) (seat : ℕ) (b : BookView) → get_elem? w.books seat ≡ some b
    → b.live ≡ true → b.under ≡ None → b.told ≡ false → w.next < w.records
    → Keeps w q (world_after_claim w seat (book_after_claim w.piece w.records w.next b))

-- a claim that finds none
abbrev pub ClaimKeepsTold : Type 0
ClaimKeepsTold = (w : World) (q : Lawful w) (seat : ℕ) (b : BookView) → get_elem? w.books seat ≡ some b
    → b.live ≡ true → b.under ≡ None → b.told ≡ false → w.records ≤ w.next
    → Keeps w q (world_after_claim w seat (book_without_pieces b))

-- a seat parts in two
abbrev pub SplitKeeps : Type 0
SplitKeeps = (w : World) (q : Lawful w) (seat : ℕ) (b : BookView) → get_elem? w.books seat ≡ some b → b.live ≡ true
    → b.under ≡ None → 2 ≤ b.width
    → Keeps w q (world_with w w.heads w.links (slice_set w.books seat (left_book b) ++ right_book b ∷ []))

-- a seat takes over what another had
abbrev pub JoinKeeps : Type 0
JoinKeeps = (w : World) (q : Lawful w) (into other : ℕ) (b d : BookView) → get_elem? w.books into ≡ some b
    → get_elem? w.books other ≡ some d → other ≢ into → b.live ≡ true → d.live ≡ true
    → b.under ≡ None → d.under ≡ None
    → Keeps w q (world_with w w.heads w.links
    (slice_set (slice_set w.books into (book_after_join w.first b d)) other spent))

-- the head is the first word, and becomes the spare
abbrev pub ReplaceKeepsWon : Type 0
ReplaceKeepsWon = (w : World) (q : Lawful w) (seat : ℕ) (b : BookView) (page spare : ℕ)
    → get_elem? w.books seat ≡ some b → b.live ≡ true → b.under ≡ None → page < length w.first
    → spare_at w page ≡ Some spare
    → slice_index w.heads page ≡ slice_index w.first page
    → Keeps w q (world_with w (slice_set w.heads page spare) w.links
    (slice_set w.books seat (book_after_swap b page spare)))

-- the page's whole chain is seen, and the try is written down as late
abbrev pub ReplaceKeepsLate : Type 0
ReplaceKeepsLate = (w : World) (q : Lawful w) (seat : ℕ) (b : BookView) (page : ℕ) → get_elem? w.books seat ≡ some b
    → b.live ≡ true → b.under ≡ None → page < length w.first
    → Keeps w q (world_with w w.heads w.links
    (slice_set w.books seat (book_after_late_swap b page (q.fresh page) (q.last page))))

-- a head that is not the first word any more shows a new record, or the spare at the chain's end
abbrev pub LateSawMore : Type 0
LateSawMore = (w : World) (q : Lawful w) (page : ℕ) → page < length w.first
    → slice_index w.heads page ≢ slice_index w.first page → (0 < length (q.fresh page))
    ⊎ (spare_at w page ≡ Some (q.last page))

-- whatever the event and its answer
abbrev pub EventKeeps : Type 0
EventKeeps = (w : World) (q : Lawful w) (e : Event) (w' : World) (a : Played) → Applies w e w' a → Keeps w q w'

-- whatever the list of events
abbrev pub RunKeeps : Type 0
RunKeeps = (w : World) (q : Lawful w) (es : List Event) (w' : World) → Runs w es w' → Keeps w q w'

-- each clause on a page, as it reads where no spare may replace the page's first word
pub record WithoutSpare (w : World) (q : Lawful w) (page : ℕ) : Type 0 where
  pub met : Meets w.floor w.links (slice_index w.heads page) (q.fresh page) (slice_index w.first page)
  pub no_swap : total (λ b. wins_in page b.swaps) w.books ≡ 0
  pub ends_is : (seat : ℕ) (b : BookView) → get_elem? w.books seat ≡ some b → b.live ≡ true
      → end_at b page ≡ slice_index w.first page
  pub posts : (seat : ℕ) (b : BookView) → get_elem? w.books seat ≡ some b → AllByRecursion (λ x. x.page ≡ page
      → x.lost ≤ beneath x.rec (q.fresh page)) b.posted
  pub under_way : (seat : ℕ) (b : BookView) (u : Under) → get_elem? w.books seat ≡ some b → b.under ≡ Some u
      → u.page ≡ page → u.lost ≤ length (seen_at b page)
  pub armed : (seat : ℕ) (b : BookView) (u : Under) → get_elem? w.books seat ≡ some b → b.under ≡ Some u
      → u.page ≡ page → u.armed ≡ true
      → (end : List ℕ) × IsEnd end (seen_at b page)
      × (slice_index w.links u.rec ≡ top w.floor (slice_index w.first page) end) × (u.lost ≤ length end)

-- a page without a spare
abbrev pub SparelessPage : Type 0
SparelessPage = (w : World) (q : Lawful w) (page : ℕ) → page < length w.first → spare_at w page ≡ None
    → WithoutSpare w q page

-- an armed record's link, told by what its seat saw last: the top of an end of the seen chain, over the word that ended
-- it, or a first word that was replaced, under a record that lost nothing
abbrev pub ArmedLink : World → (ℕ → ℕ) → BookView → Under → Type 0
ArmedLink w last b u = ((end : List ℕ) × IsEnd end (seen_at b u.page)
    × (slice_index w.links u.rec ≡ top w.floor (end_at b u.page) end)
    × (u.lost ≤ length end + late (slice_index w.first u.page) (end_at b u.page)))
    ⊎ ((slice_index w.links u.rec ≡ slice_index w.first u.page) × (last u.page ≢ slice_index w.first u.page)
    × (u.lost ≡ 0))

-- so it is, and that says no less
abbrev pub ArmedLinkIs : Type 0
ArmedLinkIs = (w : World) (q : Lawful w) (seat : ℕ) (b : BookView) (u : Under) → get_elem? w.books seat ≡ some b
    → b.live ≡ true → u.page < length w.first → Armed w b u ↔ ArmedLink w q.last b u

-- a join adds up what two seats own, posted and replaced
abbrev pub JoinAdds : Type 0
JoinAdds = (first : List ℕ) (b d : BookView) (rec page : ℕ)
    → (owns rec (book_after_join first b d) ≡ owns rec b + owns rec d)
    × (posts_in rec (book_after_join first b d).posted ≡ posts_in rec b.posted + posts_in rec d.posted)
    × (posts_at page rec (book_after_join first b d).posted ≡ posts_at page rec b.posted + posts_at page rec d.posted)
    × (wins_in page (book_after_join first b d).swaps ≡ wins_in page b.swaps + wins_in page d.swaps)

-- a claim adds its piece to what the seat owns, and nothing else
abbrev pub ClaimAdds : Type 0
ClaimAdds = (piece records next rec : ℕ) (b : BookView)
    → owns rec (book_after_claim piece records next b) ≡ owns rec b + one_if (nat_le next rec && nat_lt rec
    (min (next + piece) records))

-- what both books saw of a page is an end of what the joined book has seen there
pub record SeesBoth (first : List ℕ) (b d : BookView) : Type 0 where
  pub left : (page : ℕ) → IsEnd (seen_at b page) (seen_at (book_after_join first b d) page)
  pub right : (page : ℕ) → IsEnd (seen_at d page) (seen_at (book_after_join first b d) page)

-- of any two live seats
abbrev pub JoinSeesBoth : Type 0
JoinSeesBoth = (w : World) (q : Lawful w) (into other : ℕ) (b d : BookView) → IsSeat w into b → IsSeat w other d
    → SeesBoth w.first b d

-- a record that a seat owns is no other seat's
abbrev pub OwnsAlone : Type 0
OwnsAlone = (w : World) (q : Lawful w) (seat other rec : ℕ) (b d : BookView) → get_elem? w.books seat ≡ some b
    → get_elem? w.books other ≡ some d → other ≢ seat → 0 < owns rec b → owns rec d ≡ 0

-- the records that a claim takes were no seat's before
abbrev pub ClaimTakesFree : Type 0
ClaimTakesFree = (w : World) (q : Lawful w) (seat next : ℕ) (w' : World) → Claims w seat w' (Done next)
    → (rec : ℕ) → next ≤ rec → rec < min (next + w.piece) w.records → total (owns rec) w.books ≡ 0

-- where a seat was told that no record is left, each record has one owner
abbrev pub ToldIsClaimed : Type 0
ToldIsClaimed = (w : World) (q : Lawful w) (seat : ℕ) (b : BookView) → get_elem? w.books seat ≡ some b → b.told ≡ true
    → (rec : ℕ) → rec < w.records → total (owns rec) w.books ≡ 1

-- how many pairs n things make
abbrev pub pairs_of : ℕ → ℕ
pairs_of n = n * (n - 1) / 2

-- all exchanges that a seat's posted records lost: at most the pairs that the records make, and one more for each
-- record where a first word may be replaced
abbrev pub LossesBound : Type 0
LossesBound = (w : World) (q : Lawful w) (seat : ℕ) (b : BookView) → get_elem? w.books seat ≡ some b
    → (total (λ x. x.lost) b.posted ≤ pairs_of w.records + w.records) × (((page : ℕ) → spare_at w page ≡ None)
    → total (λ x. x.lost) b.posted ≤ pairs_of w.records)
