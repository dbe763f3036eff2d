-- A seat that posts the records of a staged batch.
use Rattle.std.specs.Prelude.{◌≡◌, ℕ, ◌-◌, ◌^◌, ◌<◌, ◌≤◌, true, false, List, [], length}
use Rattle.std.specs.Prelude.{Option, Some, None, slice_get, slice_index, slice_index_or}
use Rattle.std.specs.List.{AllByRecursion, Contains}
use Rattle.std.specs.List.Sorted.{IsPermutation}
use Rattle.bw_core.specs.World.{posts_at, times, wins_in}
use Rattle.bw_core.specs.declared.Swap.{Swap}
use Rattle.bw_board.specs.Plays.{lost_in}
use Rattle.bw_board.specs.Public.{BoardView, SeatView}
use Rattle.bw_board.specs.Working.{HasPostedAll}
use Rattle.bw_model.specs.declared.operations.Op.{Op}
use Rattle.bw_delta.specs.Batches.{writes_of}
use Rattle.bw_delta.specs.Writes.{WriteView}
use Rattle.bw_group.specs.Homes.{HasHome, HomesView, IsHomeNumber}
use Rattle.bw_post.specs.declared.workers.Worker.{Worker}
use Rattle.bw_look.specs.Folding.{pages_of}
use Rattle.bw_look.specs.declared.folded.Folded.{Folded}
use Rattle.bw_tree.specs.Beside.{AreFolded, with_own_words}
use Rattle.bw_tree.specs.Levels.{row}
use Rattle.bw_look.specs.View.{TreeView, StageView, staged_writes}
use Rattle.bw_tree.specs.PageWords.{IsPostedStageOn, words_of}

-- the writes of these operations are staged, in some order, and not adopted
abbrev pub IsWaiting : TreeView → Option StageView → List Op → Type 0
IsWaiting tree None ops = ⊥
IsWaiting tree (Some stage) ops = (stage.adopted ≡ false) × IsPermutation (writes_of tree.next ops) stage.writes

-- a batch is staged, and not adopted
abbrev pub IsUnadopted : Option StageView → Type 0
IsUnadopted None = ⊥
IsUnadopted (Some stage) = stage.adopted ≡ false

-- The words that a board over the words of these pages was closed with have the staged records posted, each to the page of its
-- key, where these leaves took the places of their pages' chains: what the tree asks for to adopt them.
pub record IsPostedBeside (tree : TreeView) (leaves : List Folded) (pages heads links : List ℕ) : Type 0 where
  pub folded : AreFolded tree leaves
  pub once : (p : ℕ) → times p (pages_of leaves) ≤ 1
  pub listed : AllByRecursion (λ f. 0 < times f.page pages) leaves
  pub posted : IsPostedStageOn (with_own_words tree leaves) tree.staged pages heads links

-- spares for some of these pages: each is the number of its page, a leaf, whose mapping word is another one
abbrev pub AreSpares : TreeView → List ℕ → List (Option ℕ) → Type 0
AreSpares tree pages given = (number spare : ℕ) → slice_index_or given number None ≡ Some spare →
    (slice_get pages number ≡ Some spare) × Contains (row tree.levels 0) spare
    × (spare < 2 ^ 32) × (2 ^ 32 ≤ slice_index tree.heads spare)

-- a spare of the board is the number of the page itself, one of these, which is a leaf
pub record IsSpare (tree : TreeView) (pages : List ℕ) (board : BoardView) (number spare : ℕ) : Type 0 where
  pub within : number < length board.first
  pub listed : slice_get pages number ≡ Some spare
  pub leaf : Contains (row tree.levels 0) spare

-- the board is over the mapping words of these pages, it has a record for each staged write, and its spares are of leaves
pub record IsBoardOf (tree : TreeView) (pages : List ℕ) (board : BoardView) : Type 0 where
  pub first : board.first ≡ words_of tree.heads pages
  pub records : board.records ≡ length (staged_writes tree.staged)
  pub few : board.records ≤ 2 ^ 32
  pub spares : (number spare : ℕ) → slice_index_or board.spares number None ≡ Some spare →
      IsSpare tree pages board number spare
  pub once : (p : ℕ) → times p pages ≤ 1

-- of each staged write the home is listed at the place of its operation
abbrev pub AreStagedHomes : TreeView → HomesView → Type 0
AreStagedHomes tree homes = (r : ℕ) (w : WriteView) → slice_get (staged_writes tree.staged) r ≡ Some w →
    (tree.next ≤ w.stamp) × HasHome tree homes (w.stamp - tree.next) w.key

-- of these pages the one with this number is the home of a staged record
abbrev pub IsHomeOfRecord : TreeView → List ℕ → ℕ → ℕ → Type 0
IsHomeOfRecord tree pages r number =
    (w : WriteView) → slice_get (staged_writes tree.staged) r ≡ Some w → IsHomeNumber tree pages w.key number

-- what the seat posted is at home on its page
abbrev pub ArePostedHome : TreeView → List ℕ → SeatView → Type 0
ArePostedHome tree pages seat =
    (number r : ℕ) → 0 < posts_at number r seat.book.posted → IsHomeOfRecord tree pages r number

-- a leaf's page is one of these, and the leaf is its spare
pub record IsSpared (pages : List ℕ) (spares : List (Option ℕ)) (leaf : Folded) : Type 0 where
  pub number : ℕ
  pub page : slice_get pages number ≡ Some leaf.page
  pub spare : slice_index_or spares number None ≡ Some leaf.page

-- each of these leaves is what its page's chain makes of it, and took the place of the chain in one of these swaps
pub record HasFolded (tree : TreeView) (pages : List ℕ) (spares : List (Option ℕ)) (leaves : List Folded)
    (swaps : List Swap) : Type 0 where
  pub are : AreFolded tree leaves
  pub spared : AllByRecursion (IsSpared pages spares) leaves
  pub won : (number p : ℕ) → slice_get pages number ≡ Some p → times p (pages_of leaves) ≡ wins_in number swaps

-- a worker who did nothing yet
pub record IsNew (board : BoardView) (worker : Worker) : Type 0 where
  pub board_is : worker.seat.board ≡ board
  pub owned : worker.seat.book.owned ≡ []
  pub posted : worker.seat.book.posted ≡ []
  pub untried : worker.seat.book.swaps ≡ []
  pub lost : worker.lost ≡ 0
  pub folded : worker.folded.items ≡ []

-- a worker who didn't claim yet
pub record HasClaimedNothing (tree : TreeView) (pages : List ℕ) (board : BoardView) (worker : Worker) : Type 0 where
  pub board_is : worker.seat.board ≡ board
  pub owned : worker.seat.book.owned ≡ []
  pub posted : worker.seat.book.posted ≡ []
  pub lost : worker.lost ≡ 0
  pub folded : HasFolded tree pages board.spares worker.folded.items worker.seat.book.swaps

-- a worker who posted all that it claimed, each record to its home, and counts the exchanges that it lost
pub record HasWorked (tree : TreeView) (pages : List ℕ) (board : BoardView) (worker : Worker) : Type 0 where
  pub board_is : worker.seat.board ≡ board
  pub posted : HasPostedAll worker.seat
  pub homes : ArePostedHome tree pages worker.seat
  pub lost : worker.lost ≡ lost_in worker.seat.book.posted
  pub folded : HasFolded tree pages board.spares worker.folded.items worker.seat.book.swaps

-- and who was told that no record is left
pub record HasFinished (tree : TreeView) (pages : List ℕ) (board : BoardView) (worker : Worker) : Type 0 where
  pub worked : HasWorked tree pages board worker
  pub told : worker.seat.book.told ≡ true

abbrev pub width_of : Worker → ℕ
width_of worker = worker.seat.book.width
