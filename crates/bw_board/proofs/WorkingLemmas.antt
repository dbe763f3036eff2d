-- What a seat that claims and posts has left to post.
use Rattle.std.proofs.Common.{◌≡◌, ℕ, ◌+◌, ◌<◌, ◌≤◌, leb, ltb, eqb, min, Bool, true, false, ◌&&◌, List, [], ◌∷◌, ◌++◌, sym, refl, ap, ◌∙◌, subst, arith}
use Rattle.std.proofs.lemmas.Bool.Decides.{nat_tests}
use Rattle.bw_core.specs.declared.Post.{Post}
use Rattle.bw_core.specs.declared.BookView.{BookView}
use Rattle.bw_core.specs.declared.Swap.{Swap}
use Rattle.bw_core.specs.World.{one_if, owns, posts_in, spans_have, tries_in}
use Rattle.bw_core.specs.Events.{post, swap, book_after_look, book_after_late_swap, book_after_join}
use Rattle.bw_core.proofs.Lists.{total-append}
use Rattle.bw_core.proofs.Without.{claim_adds, join_adds}
use Rattle.bw_board.specs.Public.{SeatView, Posts, Replaces, Sees, seat_after_claim}
use Rattle.bw_board.specs.Working.{HasPostedAll, HasLeft, SameWork}

-- a claim leaves its piece to be posted
pub left_claimed : (v w : SeatView) (from to : ℕ) → HasPostedAll v → w ≡ seat_after_claim v from → to ≡ min (from + v.board.piece) v.board.records → HasLeft w from to
left_claimed v w from to all is to_is = λ r. subst (λ (z : SeatView). owns r z.book ≡ posts_in r z.book.posted + one_if (leb from r && ltb r to)) (sym is)
    (claim_adds v.board.piece v.board.records from r v.book ∙ λ j. all r j + one_if (leb from r && ltb r (sym to_is j)))

-- the next record is owned and not posted
pub left_next : (v : SeatView) (from to : ℕ) → ((r : ℕ) → owns r v.book ≤ 1) → HasLeft v from to → from < to → (0 < owns from v.book) × (posts_in from v.book.posted ≡ 0)
left_next v from to once left h = let e = left from in let o = once from in let t : one_if (leb from from && ltb from to) ≡ 1 = grind (arith, nat_tests) in (omega arith, omega arith)

one_less : (from to r : ℕ) → from < to → one_if (leb from r && ltb r to) ≡ one_if (eqb from r) + one_if (leb (from + 1) r && ltb r to)
one_less from to r h = grind (arith, nat_tests)

-- once it is posted, there is one less
pub left_posted : (v w : SeatView) (from to page lost : ℕ) → HasLeft v from to → from < to → w.book.owned ≡ v.book.owned → w.book.posted ≡ v.book.posted ++ post from page lost ∷ [] → HasLeft w (from + 1) to
left_posted v w from to page lost left h owned posted = λ r. let t = total-append (λ (x : Post). one_if (eqb x.rec r)) v.book.posted (post from page lost ∷ []) in
    let e = left r in let k = one_less from to r h in let o : owns r w.book ≡ owns r v.book = ap (λ z. spans_have r z) owned in
    let p : posts_in r w.book.posted ≡ posts_in r (v.book.posted ++ post from page lost ∷ []) = ap (posts_in r) posted in omega arith

-- the same of a whole post
pub left_over : (v w : SeatView) (from to page lost : ℕ) → HasLeft v from to → from < to → Posts v w from page lost → HasLeft w (from + 1) to
left_over v w from to page lost left h posts =
    left_posted v w from to page lost left h (ap (λ (z : SeatView). z.book.owned) posts.after) (ap (λ (z : SeatView). z.book.posted) posts.after)

none_left : (to r : ℕ) → one_if (leb to r && ltb r to) ≡ 0
none_left to r = grind (arith, nat_tests)

-- and at the end none
pub left_none : (v : SeatView) (to : ℕ) → HasLeft v to to → HasPostedAll v
left_none v to left = λ r. let e = left r in let n = none_left to r in omega arith

-- what a seat does to see chains and to replace words
pub same_start : (v : SeatView) → SameWork v v
same_start v = record { same_board = refl; same_width = refl; same_told = refl; same_owned = refl; same_posted = refl }

pub same_looked : (v w z : SeatView) (p : ℕ) → SameWork v w → Sees w z p (book_after_look w.book p) → SameWork v z
same_looked v w z p k sees = subst (SameWork v) (sym sees.after) record { same_board = k.same_board; same_width = k.same_width; same_told = k.same_told; same_owned = k.same_owned; same_posted = k.same_posted }

pub same_replaced : (v w z : SeatView) (p : ℕ) → SameWork v w → Replaces w z p → SameWork v z
same_replaced v w z p k won = subst (SameWork v) (sym won.after) record { same_board = k.same_board; same_width = k.same_width; same_told = k.same_told; same_owned = k.same_owned; same_posted = k.same_posted }

pub same_late : (v w z : SeatView) (p : ℕ) → SameWork v w → Sees w z p (book_after_late_swap w.book p) → SameWork v z
same_late v w z p k late = subst (SameWork v) (sym late.after) record { same_board = k.same_board; same_width = k.same_width; same_told = k.same_told; same_owned = k.same_owned; same_posted = k.same_posted }

pub all_same : (v w : SeatView) → SameWork v w → HasPostedAll v → HasPostedAll w
all_same v w k all = λ r. ap (spans_have r) k.same_owned ∙ (all r ∙ ap (posts_in r) (sym k.same_posted))

tries_next : (ss : List Swap) (p q : ℕ) (won : Bool) → p < q → tries_in q (ss ++ swap p won ∷ []) ≡ tries_in q ss
tries_next ss p q won h = let t = total-append (λ (s : Swap). one_if (eqb s.page q)) ss (swap p won ∷ []) in let other : one_if (eqb p q) ≡ 0 = grind (arith, nat_tests) in omega arith

-- no later page is tried
pub tries_won : (v w : SeatView) (p q : ℕ) → Replaces v w p → p < q → tries_in q w.book.swaps ≡ tries_in q v.book.swaps
tries_won v w p q won h = ap (λ (z : SeatView). tries_in q z.book.swaps) won.after ∙ tries_next v.book.swaps p q true h

pub tries_late : (v w : SeatView) (p q : ℕ) → Sees v w p (book_after_late_swap v.book p) → p < q → tries_in q w.book.swaps ≡ tries_in q v.book.swaps
tries_late v w p q late h = ap (λ (z : SeatView). tries_in q z.book.swaps) late.after ∙ tries_next v.book.swaps p q false h

-- two that posted all are one that did
pub all_joined : (first : List ℕ) (v w z : SeatView) → HasPostedAll v → HasPostedAll w → z.book ≡ book_after_join first v.book w.book → HasPostedAll z
all_joined first v w z a b is = λ r. let t = join_adds first v.book w.book r 0 in let x = a r in let y = b r in
    subst (λ (k : BookView). owns r k ≡ posts_in r k.posted) (sym is) (omega arith)
