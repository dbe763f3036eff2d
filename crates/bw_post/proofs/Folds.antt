-- Leaves that workers put in the places of chains.
use Rattle.std.proofs.Common.{◌≡◌, ◌≢◌, ℕ, zero, suc, ◌+◌, ◌<◌, ◌≤◌, Bool, true, false, cond, ◌&&◌, ◌==◌, List, [], ◌∷◌, ◌++◌, length, get_or, set, Option, Some, None, inl, inr, ◌⊎◌, refl, sym, ap, ◌∙◌, subst, arith}
use Rattle.std.specs.Prelude.{slice_get, slice_index, slice_index_or}
use Rattle.std.specs.Cmp.{unsigned_Decides}
use Rattle.std.specs.List.{AllByRecursion, Contains}
use Rattle.std.proofs.lemmas.Bool.{cases_eq}
use Rattle.std.proofs.lemmas.List.{get_or-set_other, get_or-set_same, length-set, map-append}
use Rattle.bw_core.specs.declared.Swap.{Swap}
use Rattle.bw_core.specs.World.{IsLast, late, one_if, times, tries_in, wins_in}
use Rattle.bw_core.specs.Events.{book_after_late_swap, swap}
use Rattle.bw_core.proofs.Lists.{total-append}
use Rattle.bw_look.specs.Folding.{pages_of, put_own_words}
use Rattle.bw_look.specs.PageStates.{leaf_as_of}
use Rattle.bw_look.specs.View.{TreeView}
use Rattle.bw_look.specs.declared.folded.Folded.{Folded}
use Rattle.bw_tree.specs.Levels.{row}
use Rattle.bw_board.specs.Public.{BoardView, Replaces, SeatView, Sees}
use Rattle.bw_post.specs.Posting.{HasClaimedNothing, HasFolded, IsSpared}
use Rattle.bw_post.specs.declared.workers.Worker.{Worker}

all_both : {X : Type 0} (P : X → Type 0) (xs ys : List X) → AllByRecursion P xs → AllByRecursion P ys → AllByRecursion P (xs ++ ys)
all_both P [] ys a b = b
all_both P (x ∷ xs) ys a b = (a.0, all_both P xs ys a.1 b)

times_both : (p : ℕ) (xs ys : List Folded) → times p (pages_of (xs ++ ys)) ≡ times p (pages_of xs) + times p (pages_of ys)
times_both p xs ys = ap (times p) (map-append (λ (f : Folded). f.page) xs ys) ∙ total-append (λ x. one_if (x == p)) (pages_of xs) (pages_of ys)

wins_both : (n : ℕ) (xs ys : List Swap) → wins_in n (xs ++ ys) ≡ wins_in n xs + wins_in n ys
wins_both n xs ys = total-append (λ (s : Swap). one_if ((s.page == n) && s.won)) xs ys

-- what two workers put, in one list
pub folded_both : (tree : TreeView) (pages : List ℕ) (spares : List (Option ℕ)) (xs ys : List Folded) (a b : List Swap) → HasFolded tree pages spares xs a → HasFolded tree pages spares ys b → HasFolded tree pages spares (xs ++ ys) (a ++ b)
folded_both tree pages spares xs ys a b f g = record {
  are = all_both (λ (h : Folded). Contains (row tree.levels 0) h.page × (h.leaf ≡ leaf_as_of tree h.page tree.next)) xs ys f.are g.are;
  spared = all_both (IsSpared pages spares) xs ys f.spared g.spared;
  won = λ number p at. omega (arith, times_both p xs ys, wins_both number a b, f.won number p at, g.won number p at);
}

no_win : (a : Bool) → one_if (a && false) ≡ 0
no_win true = refl
no_win false = refl

-- a swap that came late
pub folded_late : (tree : TreeView) (pages : List ℕ) (spares : List (Option ℕ)) (xs : List Folded) (a : List Swap) (n : ℕ) → HasFolded tree pages spares xs a → HasFolded tree pages spares xs (a ++ swap n false ∷ [])
folded_late tree pages spares xs a n f = record {
  are = f.are;
  spared = f.spared;
  won = λ number p at. omega (arith, f.won number p at, wins_both number a (swap n false ∷ []), no_win (n == number));
}

pub no_number : {n : ℕ} → None ≡ Some n → ⊥
no_number e = cc

pub one_number : {m n : ℕ} → Some m ≡ Some n → m ≡ n
one_number e = cc

-- a page that is listed somewhere is in the list
pub listed_times : (pages : List ℕ) (i p : ℕ) → slice_get pages i ≡ Some p → 0 < times p pages
listed_times [] zero p at = absurd (no_number at)
listed_times [] (suc i) p at = absurd (no_number at)
listed_times (q ∷ pages) zero p at = let one : one_if (q == p) ≡ 1 = ap one_if ((unsigned_Decides q p).1 (one_number at)) in omega (arith, one)
listed_times (q ∷ pages) (suc i) p at = omega (arith, listed_times pages i p at)

-- and where none is listed twice, at one place alone
pub one_place : (pages : List ℕ) (i j p : ℕ) → times p pages ≤ 1 → slice_get pages i ≡ Some p → slice_get pages j ≡ Some p → i ≡ j
one_place [] i zero p once at also = absurd (no_number also)
one_place [] i (suc j) p once at also = absurd (no_number also)
one_place (q ∷ pages) zero zero p once at also = refl
one_place (q ∷ pages) zero (suc j) p once at also =
    let one : one_if (q == p) ≡ 1 = ap one_if ((unsigned_Decides q p).1 (one_number at)) in
    absurd (omega (arith, once, one, listed_times pages j p also))
one_place (q ∷ pages) (suc i) zero p once at also =
    let one : one_if (q == p) ≡ 1 = ap one_if ((unsigned_Decides q p).1 (one_number also)) in
    absurd (omega (arith, once, one, listed_times pages i p at))
one_place (q ∷ pages) (suc i) (suc j) p once at also = ap suc (one_place pages i j p (omega (arith, once)) at also)

test_of : (m n : ℕ) → m ≡ n → one_if (m == n) ≡ 1
test_of m n e = ap one_if ((unsigned_Decides m n).1 e)

no_test_of : (m n : ℕ) → (m ≡ n → ⊥) → one_if (m == n) ≡ 0
no_test_of m n apart = by (m == n) refl
  where
    by : (b : Bool) → (m == n) ≡ b → one_if (m == n) ≡ 0
    by true e = absurd (apart ((unsigned_Decides m n).0 e))
    by false e = ap one_if e

one_win : (m n : ℕ) → one_if ((m == n) && true) ≡ one_if (m == n)
one_win m n = by (m == n)
  where
    by : (b : Bool) → one_if (b && true) ≡ one_if b
    by true = refl
    by false = refl

-- and one that was won
module _ (tree : TreeView) (pages : List ℕ) (spares : List (Option ℕ)) (once : (p : ℕ) → times p pages ≤ 1) (xs : List Folded) (a : List Swap) (n : ℕ) (h : Folded) (at : slice_get pages n ≡ Some h.page) (spare : slice_index_or spares n None ≡ Some h.page) (has : Contains (row tree.levels 0) h.page) (is : h.leaf ≡ leaf_as_of tree h.page tree.next) (f : HasFolded tree pages spares xs a) where
  pub folded_won : HasFolded tree pages spares (xs ++ h ∷ []) (a ++ swap n true ∷ [])
  folded_won = record {
    are = all_both (λ (g : Folded). Contains (row tree.levels 0) g.page × (g.leaf ≡ leaf_as_of tree g.page tree.next)) xs (h ∷ []) f.are ((has, is), tt);
    spared = all_both (IsSpared pages spares) xs (h ∷ []) f.spared (record { number = n; page = at; spare = spare }, tt);
    won = λ number p here. omega (arith, times_both p xs (h ∷ []), wins_both number a (swap n true ∷ []), one_win n number, f.won number p here, same number p here);
  }
    where
      same : (number p : ℕ) → slice_get pages number ≡ Some p → one_if (h.page == p) ≡ one_if (n == number)
      same number p here = by (cases_eq n number)
        where
          by : (n ≡ number) ⊎ (n ≡ number → ⊥) → one_if (h.page == p) ≡ one_if (n == number)
          by (inl e) = test_of h.page p (one_number (sym at ∙ ap (slice_get pages) e ∙ here)) ∙ sym (test_of n number e)
          by (inr other) = no_test_of h.page p (λ e. other (one_place pages n number h.page (once h.page) at (here ∙ ap Some (sym e)))) ∙ sym (no_test_of n number other)

-- a leaf of a page, among others
pub leaf_of : (P : Folded → Type 0) (xs : List Folded) (p : ℕ) → AllByRecursion P xs → 0 < times p (pages_of xs) → (f : Folded) × (P f × (f.page ≡ p))
leaf_of P [] p all some = absurd (omega (arith, some))
leaf_of P (f ∷ xs) p all some = by (cases_eq f.page p) (leaf_of P xs p all.1)
  where
    by : (f.page ≡ p) ⊎ (f.page ≡ p → ⊥) → (0 < times p (pages_of xs) → (g : Folded) × (P g × (g.page ≡ p))) → (g : Folded) × (P g × (g.page ≡ p))
    by (inl e) rest = (f, (all.0, e))
    by (inr other) rest = rest (omega (arith, some, no_test_of f.page p other))

pub all_listed : (pages : List ℕ) (spares : List (Option ℕ)) (xs : List Folded) → AllByRecursion (IsSpared pages spares) xs → AllByRecursion (λ f. 0 < times f.page pages) xs
all_listed pages spares [] spared = tt
all_listed pages spares (f ∷ xs) spared = (listed_times pages spared.0.number f.page spared.0.page, all_listed pages spares xs spared.1)

pub none_or_some : (n : ℕ) → (n ≡ 0) ⊎ (0 < n)
none_or_some zero = inl refl
none_or_some (suc n) = inr (omega arith)

-- the word of a page with a leaf is its own number, and that of another one is as before
get_set : (xs : List ℕ) (i x : ℕ) → i < length xs → slice_index (set xs i x) i ≡ x
get_set xs i x lt = get_or-set_same xs i x 0 lt

pub other_word : (heads : List ℕ) (xs : List Folded) (p : ℕ) → times p (pages_of xs) ≡ 0 → slice_index (put_own_words heads xs) p ≡ slice_index heads p
other_word heads [] p none = refl
other_word heads (f ∷ xs) p none = other_word (set heads f.page f.page) xs p (omega (arith, none)) ∙ by (cases_eq f.page p)
  where
    by : (f.page ≡ p) ⊎ (f.page ≡ p → ⊥) → slice_index (set heads f.page f.page) p ≡ slice_index heads p
    by (inl e) = absurd (omega (arith, none, test_of f.page p e))
    by (inr other) = get_or-set_other heads f.page p f.page 0 (λ e. other (sym e))

pub own_word : (heads : List ℕ) (xs : List Folded) (p : ℕ) → p < length heads → 0 < times p (pages_of xs) → slice_index (put_own_words heads xs) p ≡ p
own_word heads [] p lt some = absurd (omega (arith, some))
own_word heads (f ∷ xs) p lt some = by (times p (pages_of xs)) refl (own_word (set heads f.page f.page) xs p (omega (arith, lt, length-set heads f.page f.page)))
  where
    by : (n : ℕ) → times p (pages_of xs) ≡ n → (0 < times p (pages_of xs) → slice_index (put_own_words (set heads f.page f.page) xs) p ≡ p) → slice_index (put_own_words (set heads f.page f.page) xs) p ≡ p
    by (suc n) e rest = rest (omega (arith, e))
    by zero e rest = other_word (set heads f.page f.page) xs p e ∙ here (cases_eq f.page p)
      where
        here : (f.page ≡ p) ⊎ (f.page ≡ p → ⊥) → slice_index (set heads f.page f.page) p ≡ p
        here (inl same) = subst (λ q. slice_index (set heads q q) p ≡ p) (sym same) (get_set heads p p lt)
        here (inr other) = absurd (omega (arith, some, e, no_test_of f.page p other))

-- whether a chain ends in the first word, or in another one
late_is : (first last : ℕ) → ((late first last ≡ 0) × (last ≡ first)) ⊎ ((late first last ≡ 1) × (last ≡ first → ⊥))
late_is first last = by (last == first) refl
  where
    by : (b : Bool) → (last == first) ≡ b → ((late first last ≡ 0) × (last ≡ first)) ⊎ ((late first last ≡ 1) × (last ≡ first → ⊥))
    by true e = inl (ap (λ b. cond b 0 1) e, (unsigned_Decides last first).0 e)
    by false e = inr (ap (λ b. cond b 0 1) e, λ same. different (sym e ∙ (unsigned_Decides last first).1 same))
      where
        different : false ≡ true → ⊥
        different e = cc

-- where a board's chain ends, in a page's first word, or in its own number where one swap put its leaf there
module _ (first : List ℕ) (spares : List (Option ℕ)) (i p last n : ℕ) (spare : (x : ℕ) → slice_index_or spares i None ≡ Some x → x ≡ p) (is_last : IsLast first spares i last) (is : n ≡ late (slice_index first i) last) where
  pub few : n ≤ 1
  few = by (late_is (slice_index first i) last)
    where
      by : ((late (slice_index first i) last ≡ 0) × (last ≡ slice_index first i)) ⊎ ((late (slice_index first i) last ≡ 1) × (last ≡ slice_index first i → ⊥)) → n ≤ 1
      by (inl z) = omega (arith, is, z.0)
      by (inr o) = omega (arith, is, o.0)

  pub first_stays : n ≡ 0 → last ≡ slice_index first i
  first_stays none = by (late_is (slice_index first i) last)
    where
      by : ((late (slice_index first i) last ≡ 0) × (last ≡ slice_index first i)) ⊎ ((late (slice_index first i) last ≡ 1) × (last ≡ slice_index first i → ⊥)) → last ≡ slice_index first i
      by (inl z) = z.1
      by (inr o) = absurd (omega (arith, is, o.0, none))

  pub swapped_is : 0 < n → (slice_index_or spares i None ≡ Some last) × (last ≡ p)
  swapped_is some = by (late_is (slice_index first i) last) is_last
    where
      by : ((late (slice_index first i) last ≡ 0) × (last ≡ slice_index first i)) ⊎ ((late (slice_index first i) last ≡ 1) × (last ≡ slice_index first i → ⊥)) → IsLast first spares i last → (slice_index_or spares i None ≡ Some last) × (last ≡ p)
      by (inl z) l = absurd (omega (arith, is, z.0, some))
      by (inr o) (inl e) = absurd (o.1 e)
      by (inr o) (inr e) = (e, spare last e)

tries_both : (n : ℕ) (xs ys : List Swap) → tries_in n (xs ++ ys) ≡ tries_in n xs + tries_in n ys
tries_both n xs ys = total-append (λ (s : Swap). one_if (s.page == n)) xs ys

-- another page isn't tried
pub tries_other : (n other : ℕ) (won : Bool) (xs ys : List Swap) → ys ≡ xs ++ swap n won ∷ [] → n < other → tries_in other ys ≡ tries_in other xs
tries_other n other won xs ys same lt =
    let apart : one_if (n == other) ≡ 0 = no_test_of n other (λ e. omega (arith, e, lt)) in
    omega (arith, ap (tries_in other) same, tries_both other xs (swap n won ∷ []), apart)

-- a worker who didn't claim yet, behind a swap that was won, and behind one that came late
module _ (tree : TreeView) (pages : List ℕ) (board : BoardView) (w v : Worker) (n : ℕ) (lost : v.lost ≡ w.lost) (so : HasClaimedNothing tree pages board w) where
  pub claimed_won : (once : (p : ℕ) → times p pages ≤ 1) (leaf : Folded) → slice_get pages n ≡ Some leaf.page → slice_index_or board.spares n None ≡ Some leaf.page → Contains (row tree.levels 0) leaf.page → leaf.leaf ≡ leaf_as_of tree leaf.page tree.next → v.folded.items ≡ w.folded.items ++ leaf ∷ [] →
      Replaces w.seat v.seat n → HasClaimedNothing tree pages board v
  claimed_won once leaf at spare has is pushed r = record {
    board_is = ap (λ (z : SeatView). z.board) r.after ∙ so.board_is;
    owned = ap (λ (z : SeatView). z.book.owned) r.after ∙ so.owned;
    posted = ap (λ (z : SeatView). z.book.posted) r.after ∙ so.posted;
    lost = lost ∙ so.lost;
    folded =
        subst (λ (ss : List Swap). HasFolded tree pages board.spares v.folded.items ss) (sym (ap (λ (z : SeatView). z.book.swaps) r.after))
        (subst (λ (fs : List Folded). HasFolded tree pages board.spares fs (w.seat.book.swaps ++ swap n true ∷ [])) (sym pushed)
        (folded_won tree pages board.spares once w.folded.items w.seat.book.swaps n leaf at spare has is so.folded));
  }

  pub claimed_late : v.folded.items ≡ w.folded.items → Sees w.seat v.seat n (book_after_late_swap w.seat.book n) → HasClaimedNothing tree pages board v
  claimed_late same t = record {
    board_is = ap (λ (z : SeatView). z.board) t.after ∙ so.board_is;
    owned = ap (λ (z : SeatView). z.book.owned) t.after ∙ so.owned;
    posted = ap (λ (z : SeatView). z.book.posted) t.after ∙ so.posted;
    lost = lost ∙ so.lost;
    folded =
        subst (λ (ss : List Swap). HasFolded tree pages board.spares v.folded.items ss) (sym (ap (λ (z : SeatView). z.book.swaps) t.after))
        (subst (λ (fs : List Folded). HasFolded tree pages board.spares fs (w.seat.book.swaps ++ swap n false ∷ [])) (sym same)
        (folded_late tree pages board.spares w.folded.items w.seat.book.swaps n so.folded));
  }

pub some_spare : (o : Option ℕ) → o ≢ None → (x : ℕ) × (o ≡ Some x)
some_spare None is = absurd (is refl)
some_spare (Some x) is = (x, refl)

-- the page that is read at a place
pub page_read : (pages : List ℕ) (n x r : ℕ) → slice_get pages n ≡ Some x → r ≡ get_or pages n r → x ≡ r
page_read [] zero x r at is = absurd (no_number at)
page_read [] (suc n) x r at is = absurd (no_number at)
page_read (p ∷ pages) zero x r at is = one_number (sym at) ∙ sym is
page_read (p ∷ pages) (suc n) x r at is = page_read pages n x r at is
