-- Workers who post side by side, and their seats in one.
use Rattle.std.proofs.Common.{◌≡◌, ℕ, ◌+◌, ◌<◌, eqb, leb, ltb, ◌&&◌, List, [], ◌∷◌, ◌++◌, length, map, get_or, take, drop, zero, suc, sym, refl, ap, ◌∙◌, subst, arith, inl, inr}
use Rattle.std.proofs.lemmas.Bool.{cases_lt}
use Rattle.std.proofs.lemmas.List.{length-append, length-map}
use Rattle.std.specs.Prelude.{slice_index_or, Option, Some}
use Rattle.std.specs.Option.{option_to_list}
use Rattle.std.specs.List.{AllByRecursion}
use Rattle.bw_core.specs.declared.Post.{Post}
use Rattle.bw_core.specs.declared.Span.{Span}
use Rattle.bw_core.specs.declared.Swap.{Swap}
use Rattle.bw_core.specs.World.{one_if, owns, posts_at, posts_in, total}
use Rattle.bw_core.specs.Events.{book_without_pieces, book_after_join, left_book, right_book}
use Rattle.bw_core.proofs.Lists.{total-append}
use Rattle.bw_board.specs.Plays.{lost_in}
use Rattle.bw_board.specs.Public.{BoardView, SeatView, IsSound}
use Rattle.bw_look.specs.View.{TreeView}
use Rattle.bw_look.specs.declared.folded.Folded.{Folded}
use Rattle.bw_post.proofs.Folds.{folded_both}
use Rattle.bw_post.specs.Posting.{HasClaimedNothing, HasFinished, HasFolded, HasWorked, IsBoardOf, IsHomeOfRecord, IsNew, width_of}
use Rattle.bw_post.specs.declared.workers.Worker.{Worker}
use Rattle.bw_post.proofs.Homes.{none_home, same_home}
use Rattle.bw_post.proofs.Lost.{lost_both, lost_few}

-- the leaves of a worker whose seat has the same swaps
pub same_folded : (tree : TreeView) (pages : List ℕ) (board : BoardView) (w : Worker) (v : SeatView) → v.book.swaps ≡ w.seat.book.swaps → HasFolded tree pages board.spares w.folded.items w.seat.book.swaps → HasFolded tree pages board.spares w.folded.items v.book.swaps
same_folded tree pages board w v same so = subst (HasFolded tree pages board.spares w.folded.items) (sym same) so

-- a worker who didn't claim yet has posted all that it claimed
pub fresh_worked : (tree : TreeView) (pages : List ℕ) (board : BoardView) (w : Worker) → HasClaimedNothing tree pages board w → HasWorked tree pages board w
fresh_worked tree pages board w so = record {
  board_is = so.board_is;
  posted = λ r. ap (λ (ss : List Span). total (λ s. one_if (leb s.from r && ltb r s.to)) ss) so.owned ∙ sym (ap (posts_in r) so.posted);
  homes = none_home tree pages w.seat so.posted;
  lost = so.lost ∙ sym (ap lost_in so.posted);
  folded = so.folded;
}

-- a worker who is told that no record is left
pub told_worked : (tree : TreeView) (pages : List ℕ) (board : BoardView) (w : Worker) (v : SeatView) → v ≡ record w.seat { book = book_without_pieces w.seat.book } → HasWorked tree pages board w → HasWorked tree pages board (record w { seat = v })
told_worked tree pages board w v told so = record {
  board_is = ap (λ (z : SeatView). z.board) told ∙ so.board_is;
  posted = λ r. ap (λ (z : SeatView). owns r z.book) told ∙ so.posted r ∙ sym (ap (λ (z : SeatView). posts_in r z.book.posted) told);
  homes = same_home tree pages w.seat v (ap (λ (z : SeatView). z.book.posted) told) so.homes;
  lost = so.lost ∙ sym (ap (λ (z : SeatView). lost_in z.book.posted) told);
  folded = same_folded tree pages board w v (ap (λ (z : SeatView). z.book.swaps) told) so.folded;
}

-- what two workers did, in one
pub worked_both : (tree : TreeView) (pages : List ℕ) (board : BoardView) (a b w : Worker) → HasWorked tree pages board a → HasWorked tree pages board b → w.seat ≡ record a.seat { book = book_after_join board.first a.seat.book b.seat.book } → w.lost ≡ a.lost + b.lost → w.folded.items ≡ a.folded.items ++ b.folded.items → HasWorked tree pages board w
worked_both tree pages board a b w first second both lost leaves = record {
  board_is = ap (λ (v : SeatView). v.board) both ∙ first.board_is;
  posted = λ r. (
      let owned : owns r w.seat.book ≡ owns r a.seat.book + owns r b.seat.book = ap (λ (v : SeatView). owns r v.book) both ∙ total-append (λ (s : Span). one_if (leb s.from r && ltb r s.to)) a.seat.book.owned b.seat.book.owned in
      let posted : posts_in r w.seat.book.posted ≡ posts_in r a.seat.book.posted + posts_in r b.seat.book.posted =
      ap (λ (v : SeatView). posts_in r v.book.posted) both ∙ total-append (λ (x : Post). one_if (eqb x.rec r)) a.seat.book.posted b.seat.book.posted in
      omega (arith, owned, posted, first.posted r, second.posted r)
      );
  homes = λ p r some. (
      let all : posts_at p r w.seat.book.posted ≡ posts_at p r a.seat.book.posted + posts_at p r b.seat.book.posted =
      ap (λ (v : SeatView). posts_at p r v.book.posted) both ∙ total-append (λ (x : Post). one_if (eqb x.page p && eqb x.rec r)) a.seat.book.posted b.seat.book.posted in
      elim (cases_lt 0 (posts_at p r a.seat.book.posted)) as (λ c. IsHomeOfRecord tree pages r p) [
        | inl here ↦ first.homes p r here
        | inr none ↦ second.homes p r (omega (arith, all, some, none))
      ]
      );
  lost = lost ∙ sym (ap (λ (v : SeatView). lost_in v.book.posted) both ∙ lost_both a.seat.book.posted b.seat.book.posted ∙ (let f = first.lost in let s = second.lost in omega (arith, f, s)));
  folded =
      subst (λ (ss : List Swap). HasFolded tree pages board.spares w.folded.items ss) (sym (ap (λ (v : SeatView). v.book.swaps) both))
      (subst (λ (fs : List Folded). HasFolded tree pages board.spares fs (a.seat.book.swaps ++ b.seat.book.swaps)) (sym leaves)
      (folded_both tree pages board.spares a.folded.items b.folded.items a.seat.book.swaps b.seat.book.swaps first.folded second.folded));
}

-- and what they lost together fits
pub lost_together : (tree : TreeView) (pages : List ℕ) (board : BoardView) (a b : Worker) (v : SeatView) → IsBoardOf tree pages board → HasWorked tree pages board a → HasWorked tree pages board b → v ≡ record a.seat { book = book_after_join board.first a.seat.book b.seat.book } → IsSound v → a.lost + b.lost < 18446744073709551616
lost_together tree pages board a b v over first second both sound =
    let few = lost_few v board (ap (λ (z : SeatView). z.board) both ∙ first.board_is) over.few sound in
    let sum : lost_in v.book.posted ≡ lost_in a.seat.book.posted + lost_in b.seat.book.posted = ap (λ (z : SeatView). lost_in z.book.posted) both ∙ lost_both a.seat.book.posted b.seat.book.posted in
    omega (arith, few.1, sum, first.lost, second.lost)

-- workers with the same widths, place by place
pub same_widths : (xs ys : List Worker) → length ys ≡ length xs → ((i : ℕ) (d : Worker) → i < length xs → width_of (get_or ys i d) ≡ width_of (get_or xs i d)) → map width_of ys ≡ map width_of xs
same_widths [] [] len at = refl
same_widths [] (y ∷ ys) len at = absurd (omega (arith, len))
same_widths (x ∷ xs) [] len at = absurd (omega (arith, len))
same_widths (x ∷ xs) (y ∷ ys) len at =
    ap (λ w. w ∷ map width_of ys) (at 0 x (omega arith))
    ∙ ap (λ ws. width_of x ∷ ws) (same_widths xs ys (omega (arith, len)) (λ i d lt. at (suc i) d (omega (arith, lt))))

all_more : {X : Type 0} (P : X → Type 0) (xs : List X) (y : X) → AllByRecursion P xs → P y → AllByRecursion P (xs ++ y ∷ [])
all_more P [] y so here = (here, tt)
all_more P (x ∷ xs) y so here = (so.0, all_more P xs y so.1 here)

-- the first of some workers, and the others
pub first_removed : (ws rest : List Worker) (w : Worker) → 0 < length ws → w ≡ slice_index_or ws 0 w → rest ≡ take 0 ws ++ drop 1 ws → ws ≡ w ∷ rest
first_removed [] rest w lt is others = absurd (omega (arith, lt))
first_removed (x ∷ ws) rest w lt is others = ap (λ y. y ∷ ws) (sym is) ∙ ap (λ l. w ∷ l) (sym others)

pub some_more : (one two : List Worker) (w : Worker) → two ≡ one ++ w ∷ [] → 0 < length two
some_more one two w more = let n = ap (λ (l : List Worker). length l) more in let m = length-append one (w ∷ []) in omega (arith, n, m)

module _ (board : BoardView) (ws rest : List Worker) (w : Worker) (parts : ws ≡ w ∷ rest) where
  -- its seat in two
  pub split_new : (one two : List Worker) (l r : Worker) → one ≡ rest ++ l ∷ [] → two ≡ one ++ r ∷ [] → l.seat ≡ record w.seat { book = left_book w.seat.book } → r.seat ≡ record w.seat { book = right_book w.seat.book } → (l.lost ≡ 0) × (l.folded.items ≡ []) → (r.lost ≡ 0) × (r.folded.items ≡ []) →
      AllByRecursion (IsNew board) ws → AllByRecursion (IsNew board) two
  split_new one two l r first second left right none_left none_right new =
      let all = subst (AllByRecursion (IsNew board)) parts new in
      subst (AllByRecursion (IsNew board)) (sym second)
      (all_more (IsNew board) one r
      (subst (AllByRecursion (IsNew board)) (sym first) (all_more (IsNew board) rest l all.1 (record {
        board_is = ap (λ (v : SeatView). v.board) left ∙ all.0.board_is;
        owned = ap (λ (v : SeatView). v.book.owned) left ∙ all.0.owned;
        posted = ap (λ (v : SeatView). v.book.posted) left ∙ all.0.posted;
        untried = ap (λ (v : SeatView). v.book.swaps) left ∙ all.0.untried;
        lost = none_left.0;
        folded = none_left.1;
      })))
      (record {
        board_is = ap (λ (v : SeatView). v.board) right ∙ all.0.board_is;
        owned = ap (λ (v : SeatView). v.book.owned) right;
        posted = ap (λ (v : SeatView). v.book.posted) right;
        untried = ap (λ (v : SeatView). v.book.swaps) right;
        lost = none_right.0;
        folded = none_right.1;
      }))

  pub split_width : (one two : List Worker) (l r : Worker) → one ≡ rest ++ l ∷ [] → two ≡ one ++ r ∷ [] → l.seat ≡ record w.seat { book = left_book w.seat.book } → r.seat ≡ record w.seat { book = right_book w.seat.book } →
      total width_of two ≡ total width_of ws
  split_width one two l r first second left right =
      let a = ap (total width_of) second ∙ total-append width_of one (r ∷ []) in
      let b = ap (total width_of) first ∙ total-append width_of rest (l ∷ []) in
      omega (arith, a, b, ap (λ (v : SeatView). v.book.width) left, ap (λ (v : SeatView). v.book.width) right, ap (total width_of) parts)

  -- or as it was
  pub same_width : (one : List Worker) (l : Worker) → one ≡ rest ++ l ∷ [] → l.seat ≡ w.seat → total width_of one ≡ total width_of ws
  same_width one l first same =
      let b = ap (total width_of) first ∙ total-append width_of rest (l ∷ []) in
      omega (arith, b, ap (λ (v : SeatView). v.book.width) same, ap (total width_of) parts)

-- one more worker's seat joined
pub all_joined : (tree : TreeView) (pages : List ℕ) (board : BoardView) (ws rest : List Worker) (w : Worker) → ws ≡ w ∷ rest → AllByRecursion (HasFinished tree pages board) ws → HasFinished tree pages board w × AllByRecursion (HasFinished tree pages board) rest
all_joined tree pages board ws rest w parts all = subst (AllByRecursion (HasFinished tree pages board)) parts all

-- the last of some workers, and the others
pub last_popped : {X : Type 0} (P : X → Type 0) (ws rest : List X) (o : Option X) (w : X) → ws ≡ rest ++ option_to_list o → o ≡ Some w → AllByRecursion P ws → AllByRecursion P rest × P w
last_popped {X = X} P ws rest o w parts some all = by rest (subst (AllByRecursion P) (parts ∙ ap (λ (x : Option X). rest ++ option_to_list x) some) all)
  where
    by : (rest : List X) → AllByRecursion P (rest ++ w ∷ []) → AllByRecursion P rest × P w
    by [] so = (tt, so.0)
    by (x ∷ xs) so = let more = by xs so.1 in ((so.0, more.0), more.1)

pub last_width : (ws rest : List Worker) (o : Option Worker) (w : Worker) → ws ≡ rest ++ option_to_list o → o ≡ Some w → width_of w + total width_of rest ≡ total width_of ws
last_width ws rest o w parts some = let a = ap (total width_of) (parts ∙ ap (λ (x : Option Worker). rest ++ option_to_list x) some) in let b = total-append width_of rest (w ∷ []) in omega (arith, a, b)

pub no_width : (ws : List Worker) → length ws ≡ 0 → total width_of ws ≡ 0
no_width [] none = refl
no_width (w ∷ ws) none = absurd (omega (arith, none))

sum_of_widths : (ws : List Worker) → total width_of ws ≡ total (λ n. n) (map width_of ws)
sum_of_widths [] = refl
sum_of_widths (w ∷ ws) = ap (λ n. width_of w + n) (sum_of_widths ws)

pub same_sum : (xs ys : List Worker) → map width_of ys ≡ map width_of xs → total width_of ys ≡ total width_of xs
same_sum xs ys same = sum_of_widths ys ∙ ap (total (λ n. n)) same ∙ sym (sum_of_widths xs)

pub same_length : (xs ys : List Worker) → map width_of ys ≡ map width_of xs → length ys ≡ length xs
same_length xs ys same = let a = ap (λ (l : List ℕ). length l) same in omega (arith, a, length-map xs width_of, length-map ys width_of)

-- the front of some workers and others
pub front_of : (n : ℕ) (xs ys : List Worker) → n ≡ length xs → take n (xs ++ ys) ≡ xs
front_of zero [] ys len = none ys
  where
    none : (ys : List Worker) → take 0 ys ≡ []
    none ys = refl
front_of (suc n) [] ys len = absurd (omega (arith, len))
front_of zero (x ∷ xs) ys len = absurd (omega (arith, len))
front_of (suc n) (x ∷ xs) ys len = ap (λ l. x ∷ l) (front_of n xs ys (omega (arith, len)))
