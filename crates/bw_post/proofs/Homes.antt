-- What was posted to the pages of the records' keys is what a tree adopts.
use Rattle.std.proofs.Common.{◌≡◌, ℕ, zero, suc, ◌+◌, ◌<◌, ◌≤◌, ◌^◌, Bool, true, false, ◌&&◌, eqb, List, [], ◌∷◌, length, set, Option, Some, None, inl, inr, ◌⊎◌, refl, sym, ap, ◌∙◌, subst, arith}
use Rattle.std.specs.Prelude.{slice_get, slice_index, slice_index_or, MatchOption}
use Rattle.std.specs.List.{AllByRecursion}
use Rattle.std.proofs.lemmas.Bool.{cases_eq}
use Rattle.std.proofs.lemmas.Bool.Decides.{nat_tests}
use Rattle.std.proofs.lemmas.List.{length-map, length-set}
use Rattle.std.proofs.lemmas.Option.{slice_get_within}
use Rattle.bw_core.specs.declared.Post.{Post}
use Rattle.bw_core.specs.World.{Meets, one_if, posts_at, posts_in, times}
use Rattle.bw_core.specs.Events.{post}
use Rattle.bw_core.proofs.Lists.{total-append}
use Rattle.bw_board.specs.Public.{BoardView, SeatView, IsClosed, IsClosedPage, Posts}
use Rattle.bw_delta.specs.Writes.{WriteView}
use Rattle.bw_tree.specs.Stages.{IsPostedTo}
use Rattle.bw_look.specs.StagedBatches.{IsStagedAs}
use Rattle.bw_look.specs.View.{TreeView, StageView, staged_writes}
use Rattle.bw_look.specs.declared.staging.Staged.{Staged}
use Rattle.bw_look.specs.Folding.{pages_of, put_each, put_own_words}
use Rattle.bw_look.specs.declared.folded.Folded.{Folded}
use Rattle.bw_tree.specs.Beside.{with_own_words}
use Rattle.bw_tree.specs.Levels.{IsHome}
use Rattle.bw_tree.specs.PageWords.{ArePages, IsPostedOn, IsPostedStageOn, words_of}
use Rattle.bw_group.specs.Homes.{IsHomeNumber}
use Rattle.bw_post.specs.Posting.{ArePostedHome, AreSpares, HasFolded, IsBoardOf, IsHomeOfRecord, IsPostedBeside, IsSpared, IsUnadopted}
use Rattle.bw_post.proofs.Folds.{all_listed, few, first_stays, leaf_of, listed_times, no_number, none_or_some, one_number, one_place, other_word, own_word, swapped_is}

-- nothing posted yet
pub none_home : (tree : TreeView) (pages : List ℕ) (v : SeatView) → v.book.posted ≡ [] → ArePostedHome tree pages v
none_home tree pages v none p r some = absurd (omega (arith, some, ap (posts_at p r) none))

-- the posts of the same seat, or of one that posted the same
pub same_home : (tree : TreeView) (pages : List ℕ) (v w : SeatView) → w.book.posted ≡ v.book.posted → ArePostedHome tree pages v → ArePostedHome tree pages w
same_home tree pages v w same h p r some = h p r (omega (arith, some, ap (posts_at p r) same))

-- one more post, to the home of its record
pub home_more : (tree : TreeView) (pages : List ℕ) (v w : SeatView) (r page lost : ℕ) → Posts v w r page lost → IsHomeOfRecord tree pages r page → ArePostedHome tree pages v → ArePostedHome tree pages w
home_more tree pages v w r page lost posted home h p q some = elim (cases_eq q r) [
  | inr other ↦ h p q (omega (arith, before, less (eqb page p) (eqb r q) (other_test q r other), some))
  | inl same ↦ elim (cases_eq p page) [
    | inl here ↦ subst (λ (z : ℕ). IsHomeOfRecord tree pages z p) (sym same) (subst (IsHomeOfRecord tree pages r) (sym here) home)
    | inr away ↦ h p q (omega (arith, before, elsewhere (eqb page p) (eqb r q) (other_test p page away), some))
  ]
]
  where
    before : posts_at p q w.book.posted ≡ posts_at p q v.book.posted + (one_if (eqb page p && eqb r q) + 0)
    before = ap (λ (z : SeatView). posts_at p q z.book.posted) posted.after ∙ total-append (λ (y : Post). one_if (eqb y.page p && eqb y.rec q)) v.book.posted (post r page lost ∷ [])

    other_test : (m n : ℕ) → (m ≡ n → ⊥) → eqb n m ≡ false
    other_test m n e = grind (arith, nat_tests)

    less : (a b : Bool) → b ≡ false → one_if (a && b) ≡ 0
    less true b e = ap one_if e
    less false b e = refl

    elsewhere : (a b : Bool) → a ≡ false → one_if (a && b) ≡ 0
    elsewhere a b e = ap (λ c. one_if (c && b)) e

-- a record that was posted was posted to some page
posted_somewhere : (r : ℕ) (ps : List Post) → 0 < posts_in r ps → (p : ℕ) × (0 < posts_at p r ps)
posted_somewhere r [] some = absurd (omega (arith, some))
posted_somewhere r (x ∷ ps) some = elim (cases_eq x.rec r) [
  | inl same ↦ (x.page, omega (arith, both (eqb x.page x.page) (eqb x.rec r) (itself x.page) (test x.rec r same)))
  | inr other ↦ let more = posted_somewhere r ps (omega (arith, some, ap one_if (no_test x.rec r other))) in (more.0, omega (arith, more.1))
]
  where
    itself : (n : ℕ) → eqb n n ≡ true
    itself n = grind (arith, nat_tests)

    test : (m n : ℕ) → m ≡ n → eqb m n ≡ true
    test m n e = grind (arith, nat_tests)

    no_test : (m n : ℕ) → (m ≡ n → ⊥) → eqb m n ≡ false
    no_test m n e = grind (arith, nat_tests)

    both : (a b : Bool) → a ≡ true → b ≡ true → one_if (a && b) ≡ 1
    both a b e f = ap (λ c. one_if (c && b)) e ∙ ap one_if f

-- the word of a listed page
pub word_at : (heads pages : List ℕ) (i p : ℕ) → slice_get pages i ≡ Some p → slice_index (words_of heads pages) i ≡ slice_index heads p
word_at heads [] zero p at = absurd (no_number at)
word_at heads [] (suc i) p at = absurd (no_number at)
word_at heads (q ∷ pages) zero p at = ap (slice_index heads) (one_number at)
word_at heads (q ∷ pages) (suc i) p at = word_at heads pages i p at

-- the words of pages are below a floor where all words are
pub low_words : (heads pages : List ℕ) (floor : ℕ) → ((p : ℕ) → p < length heads → slice_index heads p < floor) → AllByRecursion (λ p. p < length heads) pages →
    (i : ℕ) → i < length (words_of heads pages) → slice_index (words_of heads pages) i < floor
low_words heads [] floor low there i lt = absurd (omega (arith, lt))
low_words heads (p ∷ pages) floor low there zero lt = low p there.0
low_words heads (p ∷ pages) floor low there (suc i) lt = low_words heads pages floor low there.1 i (omega (arith, lt))

listed_there : (n : ℕ) (pages : List ℕ) (i p : ℕ) → slice_get pages i ≡ Some p → AllByRecursion (λ q. q < n) pages → p < n
listed_there n [] zero p at there = absurd (no_number at)
listed_there n [] (suc i) p at there = absurd (no_number at)
listed_there n (q ∷ pages) zero p at there = subst (λ (k : ℕ). k < n) (one_number at) there.0
listed_there n (q ∷ pages) (suc i) p at there = listed_there n pages i p at there.1

length_each : {X : Type 0} (of : Folded → X) (xs : List X) (fs : List Folded) → length (put_each of xs fs) ≡ length xs
length_each of xs [] = refl
length_each of xs (f ∷ fs) = length_each of (set xs f.page (of f)) fs ∙ length-set xs f.page (of f)

-- a closed board over pages, with the spares of some of them
pub record IsOver (tree : TreeView) (pages : List ℕ) (board : BoardView) : Type 0 where
  pub listed : ArePages tree pages
  pub first : board.first ≡ words_of tree.heads pages
  pub records : board.records ≡ length (staged_writes tree.staged)
  pub spare : (number spare : ℕ) → ◌≡◌ {A = Option ℕ} (slice_index_or board.spares number None) (Some spare) → slice_get pages number ≡ Some spare

module _ (tree : TreeView) (stage : StageView) (v : SeatView) (pages hs ls sw : List ℕ) (leaves : List Folded) (over : IsOver tree pages v.board) (staged : tree.staged ≡ Some stage)
    (floor : v.board.floor ≡ 2 ^ 32 + stage.records) (at_home : ArePostedHome tree pages v) (folded : HasFolded tree pages v.board.spares leaves v.book.swaps) (closed : IsClosed v hs ls sw) where
  in_stage : (r : ℕ) (w : WriteView) → slice_get stage.writes r ≡ Some w → slice_get (staged_writes tree.staged) r ≡ Some w
  in_stage r w at = ap (λ (l : List WriteView). slice_get l r) (ap staged_writes staged) ∙ at

  within : (r : ℕ) (w : WriteView) → slice_get stage.writes r ≡ Some w → r < v.board.records
  within r w at = omega (arith, over.records, slice_get_within (staged_writes tree.staged) r w (in_stage r w at))

  -- where a record was posted, the home of its key is listed
  home_of : (number r : ℕ) (w : WriteView) → slice_get stage.writes r ≡ Some w → 0 < posts_at number r v.book.posted → IsHomeNumber tree pages w.key number
  home_of number r w at some = at_home number r some w (in_stage r w at)

  in_board : (i p : ℕ) → slice_get pages i ≡ Some p → i < length v.board.first
  in_board i p at = omega (arith, slice_get_within pages i p at, ap (λ (l : List ℕ). length l) over.first, length-map pages (slice_index tree.heads))

  -- a page with a leaf has it in the place of its chain
  leaf_at : (p : ℕ) → 0 < times p (pages_of leaves) → (i : ℕ) × ((slice_get pages i ≡ Some p) × ◌≡◌ {A = Option ℕ} (slice_index_or v.board.spares i None) (Some p))
  leaf_at p some =
      let leaf = leaf_of (IsSpared pages v.board.spares) leaves p folded.spared some in
      (leaf.1.0.number, (leaf.1.0.page ∙ ap Some leaf.1.1, leaf.1.0.spare ∙ ap Some leaf.1.1))

  -- where a chain ends: in the word of its page, or in the leaf that took the place of what stood there
  last_at : (i p : ℕ) (at : slice_get pages i ≡ Some p) → let t = closed.each_page i (in_board i p at) in (times p (pages_of leaves) ≤ 1) × (t.last ≡ slice_index (put_own_words tree.heads leaves) p)
  last_at i p at = by (none_or_some (times i sw)) (none_or_some (times p (pages_of leaves)))
    where
      t : IsClosedPage v hs ls sw i
      t = closed.each_page i (in_board i p at)

      Ends : Type 0
      Ends = (times p (pages_of leaves) ≤ 1) × (t.last ≡ slice_index (put_own_words tree.heads leaves) p)

      spare_is : (x : ℕ) → ◌≡◌ {A = Option ℕ} (slice_index_or v.board.spares i None) (Some x) → x ≡ p
      spare_is x e = one_number (sym (over.spare i x e) ∙ at)

      as_often : times p (pages_of leaves) ≡ times i sw
      as_often = folded.won i p at ∙ sym t.won_is

      by : (times i sw ≡ 0) ⊎ (0 < times i sw) → (times p (pages_of leaves) ≡ 0) ⊎ (0 < times p (pages_of leaves)) → Ends
      by (inl none) (inl no_leaf) = (
        omega (arith, no_leaf),
        first_stays v.board.first v.board.spares i p t.last (times i sw) spare_is t.is_last t.swapped_is none
            ∙ ap (λ (l : List ℕ). slice_index l i) over.first ∙ word_at tree.heads pages i p at ∙ sym (other_word tree.heads leaves p no_leaf),
      )
      by (inl none) (inr leaf) = absurd (omega (arith, as_often, none, leaf))
      by (inr some) other =
          let swapped = swapped_is v.board.first v.board.spares i p t.last (times i sw) spare_is t.is_last t.swapped_is some in (
            omega (arith, as_often, few v.board.first v.board.spares i p t.last (times i sw) spare_is t.is_last t.swapped_is),
            swapped.1 ∙ sym (own_word tree.heads leaves p (listed_there (length tree.heads) pages i p at over.listed.there) (omega (arith, as_often, some))),
          )

  chain_at : (i p : ℕ) → slice_get pages i ≡ Some p → IsPostedTo (with_own_words tree leaves) stage ls (slice_index hs i) p
  chain_at i p at =
      let t = closed.each_page i (in_board i p at) in
      let last = (last_at i p at).1 in
      record {
        chain = t.chain;
        way = subst (λ x. Meets (2 ^ 32 + stage.records) ls (slice_index hs i) t.chain x) last (subst (λ f. Meets f ls (slice_index hs i) t.chain t.last) floor t.met);
        once = t.once;
        here = λ r w is home.
            let somewhere = posted_somewhere r v.book.posted (omega (arith, closed.posted r (within r w is))) in
            let there = home_of somewhere.0 r w is somewhere.1 in
            let place : i ≡ somewhere.0 = one_place pages i somewhere.0 p (over.listed.once p) at (there.is ∙ ap Some (sym (there.one.1 p home))) in
            omega (arith, t.posts r, subst (λ q. 0 < posts_at q r v.book.posted) (sym place) somewhere.1);
        only = λ r w is some.
            let there = home_of i r w is (omega (arith, some, t.posts r)) in
            subst (IsHome tree.slots tree.levels w.key) (one_number (sym there.is ∙ at)) there.one.0;
      }

  posted_on : IsPostedOn (with_own_words tree leaves) stage pages hs ls
  posted_on = record {
    listed = record {
      once = over.listed.once;
      there = subst (λ (n : ℕ). AllByRecursion (λ p. p < n) pages) (sym (length_each (λ (f : Folded). f.page) tree.heads leaves)) over.listed.there;
    };
    count = omega (arith, closed.head_each_page, ap (λ (l : List ℕ). length l) over.first, length-map pages (slice_index tree.heads));
    records = closed.link_each_record ∙ over.records ∙ ap (λ (l : List WriteView). length l) (ap staged_writes staged);
    chains = chain_at;
    homes = λ r p w is home.
        let somewhere = posted_somewhere r v.book.posted (omega (arith, closed.posted r (within r w is))) in
        let there = home_of somewhere.0 r w is somewhere.1 in
        subst (λ (q : ℕ). 0 < times q pages) (sym (there.one.1 p home)) (listed_times pages somewhere.0 there.page there.is);
  }

  leaves_once : (p : ℕ) → times p (pages_of leaves) ≤ 1
  leaves_once p = by (none_or_some (times p (pages_of leaves)))
    where
      by : (times p (pages_of leaves) ≡ 0) ⊎ (0 < times p (pages_of leaves)) → times p (pages_of leaves) ≤ 1
      by (inl none) = omega (arith, none)
      by (inr some) = let leaf = leaf_at p some in (last_at leaf.0 p leaf.1.0).0

  pub posted_beside : stage.adopted ≡ false → IsPostedBeside tree leaves pages hs ls
  posted_beside not_yet = record {
    folded = folded.are;
    once = leaves_once;
    listed = all_listed pages v.board.spares leaves folded.spared;
    posted = subst (λ (o : Option StageView). IsPostedStageOn (with_own_words tree leaves) o pages hs ls) (sym staged) (not_yet, posted_on);
  }

  pub no_leaves : ((n : ℕ) → ◌≡◌ {A = Option ℕ} (slice_index_or v.board.spares n None) None) → leaves ≡ []
  no_leaves none = by leaves folded.spared
    where
      by : (xs : List Folded) → AllByRecursion (IsSpared pages v.board.spares) xs → xs ≡ []
      by [] spared = refl
      by (f ∷ xs) spared = absurd (no_number (sym (none spared.0.number) ∙ spared.0.spare))

pub unadopted : (tree : TreeView) (stage : StageView) → tree.staged ≡ Some stage → IsUnadopted tree.staged → stage.adopted ≡ false
unadopted tree stage is waiting = subst IsUnadopted is waiting

-- so a closed board is what the tree adopts
pub posted_stage : (tree : TreeView) (v : SeatView) (pages hs ls sw : List ℕ) (leaves : List Folded) (batch : Staged) → IsUnadopted tree.staged → IsStagedAs tree batch → v.board.floor ≡ batch.floor → IsOver tree pages v.board → ArePostedHome tree pages v →
    HasFolded tree pages v.board.spares leaves v.book.swaps → IsClosed v hs ls sw → IsPostedBeside tree leaves pages hs ls
posted_stage tree v pages hs ls sw leaves batch waiting told floor over at_home folded closed =
    posted_beside tree told.stage v pages hs ls sw leaves over told.is (floor ∙ told.floor) at_home folded closed (unadopted tree told.stage told.is waiting)

module _ (tree : TreeView) (pages : List ℕ) (given : List (Option ℕ)) (opened : BoardView) (batch : Staged) (told : IsStagedAs tree batch) (are : ArePages tree pages) (spared : AreSpares tree pages given)
    (first : opened.first ≡ words_of tree.heads pages) (records : opened.records ≡ batch.records) (spares : ◌≡◌ {A = List (Option ℕ)} opened.spares given) where
  staged_are : opened.records ≡ length (staged_writes tree.staged)
  staged_are = records ∙ told.records ∙ ap (λ (o : Option StageView). length (staged_writes o)) (sym told.is)

  spare_of_page : (number spare : ℕ) → ◌≡◌ {A = Option ℕ} (slice_index_or opened.spares number None) (Some spare) → ◌≡◌ {A = Option ℕ} (slice_index_or given number None) (Some spare)
  spare_of_page number spare e = ap (λ (l : List (Option ℕ)). slice_index_or l number None) (sym spares) ∙ e

  -- a board over a tree's words, with so many records
  pub is_board_of : IsBoardOf tree pages opened
  is_board_of = record {
    first = first;
    records = staged_are;
    few = omega (arith, records, told.fits, told.floor);
    spares = λ number spare e.
        let s = spared number spare (spare_of_page number spare e) in
        record {
          within = omega (arith, slice_get_within pages number spare s.0, ap (λ (l : List ℕ). length l) first, length-map pages (slice_index tree.heads));
          listed = s.0;
          leaf = s.1;
        };
    once = are.once;
  }

  pub is_over : IsOver tree pages opened
  is_over = record {
    listed = are;
    first = first;
    records = staged_are;
    spare = λ number spare e. (spared number spare (spare_of_page number spare e)).0;
  }

-- the spares of a board over a tree's words fit it
pub spares_fit : (tree : TreeView) (pages : List ℕ) (given : List (Option ℕ)) (floor : ℕ) → 2 ^ 32 ≤ floor → AreSpares tree pages given → (number spare : ℕ) → slice_index_or given number None ≡ Some spare → (spare < floor) × (spare ≡ slice_index (words_of tree.heads pages) number → ⊥)
spares_fit tree pages given floor le are number spare e =
    let s = are number spare e in
    let word = word_at tree.heads pages number spare s.0 in
    (omega (arith, le, s.2), λ same. omega (arith, same, word, s.2, s.3))

pub no_spare : (given : List (Option ℕ)) → given ≡ [] → (n : ℕ) → ◌≡◌ {A = Option ℕ} (slice_index_or given n None) None
no_spare given none n = ap (λ (l : List (Option ℕ)). slice_index_or l n None) none ∙ nothing n
  where
    nothing : (n : ℕ) → ◌≡◌ {A = Option ℕ} (slice_index_or [] n None) None
    nothing zero = refl
    nothing (suc n) = refl

-- the batch that a call told of
pub told_batch : (o : Option Staged) (tree : TreeView) (batch : Staged) → MatchOption o (tree.staged ≡ None) (IsStagedAs tree) → o ≡ Some batch → IsStagedAs tree batch
told_batch None tree batch told e = absurd (none e)
  where
    none : None ≡ Some batch → ⊥
    none e = cc
told_batch (Some b) tree batch told e = subst (IsStagedAs tree) (same e) told
  where
    same : Some b ≡ Some batch → b ≡ batch
    same e = cc
