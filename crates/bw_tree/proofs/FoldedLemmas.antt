-- Leaves that are swapped with base pages, one after another.
use Rattle.std.proofs.Common.{◌≡◌, ◌≢◌, ℕ, zero, suc, ◌+◌, ◌<◌, ◌≤◌, add-one, ◌==◌, List, [], ◌∷◌, ◌++◌, length, take, drop, get_or, set, Option, Some, refl, sym, ap, ◌∙◌, subst, arith}
use Rattle.std.specs.Prelude.{slice_get}
use Rattle.std.specs.List.{AllByRecursion}
use Rattle.std.specs.Cmp.{unsigned_Decides}
use Rattle.std.proofs.lemmas.List.{append-nil, drop-drop, drop-set-lt, drop_all, set_comm, set-set, take_all, take_more_set}
use Rattle.std.proofs.Math.Seq.{drop-cons}
use Rattle.bw_core.specs.World.{one_if, times}
use Rattle.bw_model.specs.Values.{ValueBytes}
use Rattle.bw_page.specs.Leaves.{LeafView}
use Rattle.bw_page.specs.declared.pages.Page.{Page}
use Rattle.bw_page.specs.declared.pages.Page.TheVariants.{Leaf as LeafPage}
use Rattle.bw_level.specs.Changes.{Bases}
use Rattle.bw_chain.specs.Supports.{IsLeafAt}
use Rattle.bw_look.specs.Folding.{pages_of, put_each, put_leaves}
use Rattle.bw_look.specs.declared.folded.Folded.{Folded}
use Rattle.bw_look.proofs.PutLemmas.{put_more}
use Rattle.bw_tree.proofs.SwappedWords.{not_first}

abbrev base_of : Folded → Option Page
base_of f = Some (LeafPage f.leaf)

-- what other pages have doesn't mind one that was set
pub put_set_other : {X : Type 0} (of : Folded → X) (xs : List X) (fs : List Folded) (p : ℕ) (x : X) → times p (pages_of fs) ≡ 0 → put_each of (set xs p x) fs ≡ set (put_each of xs fs) p x
put_set_other of xs [] p x none = refl
put_set_other of xs (f ∷ fs) p x none =
    let apart = not_first p f.page (pages_of fs) none in
    ap (λ l. put_each of l fs) (set_comm xs p f.page x (of f) (λ e. apart.0 (sym e))) ∙ put_set_other of (set xs f.page (of f)) fs p x apart.1

-- a list that took another one's place is whole
pub whole : (xs ys : List Folded) (n : ℕ) → length xs ≡ length ys → length ys ≡ n → take n (xs ++ drop (length xs) ys) ≡ xs
whole xs ys n same count =
    ap (λ l. take n (xs ++ l)) (drop_all (length xs) ys (omega (arith, same)))
    ∙ ap (take n) (append-nil xs) ∙ take_all n xs (omega (arith, same, count))

-- a page with none of them has what it had
pub put_other : {X : Type 0} (of : Folded → X) (xs : List X) (fs : List Folded) (p : ℕ) → times p (pages_of fs) ≡ 0 → slice_get (put_each of xs fs) p ≡ slice_get xs p
put_other of xs [] p none = refl
put_other of xs (f ∷ fs) p none =
    let apart = not_first p f.page (pages_of fs) none in
    put_other of (set xs f.page (of f)) fs p apart.1 ∙ get_other xs f.page p (of f) apart.0
  where
    get_other : {X : Type 0} (ys : List X) (i j : ℕ) (y : X) → (i ≢ j) → slice_get (set ys i y) j ≡ slice_get ys j
    get_other [] i j y apart = refl
    get_other (z ∷ ys) zero zero y apart = absurd (apart refl)
    get_other (z ∷ ys) zero (suc j) y apart = refl
    get_other (z ∷ ys) (suc i) zero y apart = refl
    get_other (z ∷ ys) (suc i) (suc j) y apart = get_other ys i j y (λ e. apart (ap suc e))

-- what stands at a place, put there
set_same : {X : Type 0} (xs : List X) (i : ℕ) (x : X) → slice_get xs i ≡ Some x → set xs i x ≡ xs
set_same [] i x at = refl
set_same {X = X} (y ∷ xs) zero x at = ap (λ (z : X). z ∷ xs) (sym (one at))
  where
    one : {a b : X} → Some a ≡ Some b → a ≡ b
    one e = cc
set_same {X = X} (y ∷ xs) (suc i) x at = ap (λ (l : List X). y ∷ l) (set_same xs i x at)

times_parts : (p n : ℕ) (fs : List Folded) → times p (pages_of (take n fs)) + times p (pages_of (drop n fs)) ≡ times p (pages_of fs)
times_parts p zero fs = omega arith
times_parts p (suc n) [] = refl
times_parts p (suc n) (f ∷ fs) = omega (arith, times_parts p n fs)

-- the first leaves are swapped
pub record AreLeavesSwapped (old new : Bases) (given now : List Folded) (n : ℕ) : Type 0 where
  pub put : put_leaves new (drop n given) ≡ put_leaves old given
  pub back : put_leaves new (take n now) ≡ old
  pub rest : drop n now ≡ drop n given
  pub pages : pages_of now ≡ pages_of given
  pub leaves : AllByRecursion (λ f. IsLeafAt new f.page) (drop n given)

still_leaf : (bases : Bases) (p q : ℕ) (leaf : LeafView ValueBytes) → IsLeafAt bases q → IsLeafAt (set bases p (Some (LeafPage leaf))) q
still_leaf [] p q leaf is = is
still_leaf (x ∷ bases) zero zero leaf is = (leaf, refl)
still_leaf (x ∷ bases) zero (suc q) leaf is = is
still_leaf (x ∷ bases) (suc p) zero leaf is = is
still_leaf (x ∷ bases) (suc p) (suc q) leaf is = still_leaf bases p q leaf is

all_still : (bases : Bases) (p : ℕ) (leaf : LeafView ValueBytes) (fs : List Folded) → AllByRecursion (λ f. IsLeafAt bases f.page) fs → AllByRecursion (λ f. IsLeafAt (set bases p (Some (LeafPage leaf))) f.page) fs
all_still bases p leaf [] are = tt
all_still bases p leaf (f ∷ fs) are = (still_leaf bases p f.page leaf are.0, all_still bases p leaf fs are.1)

module _ (old new : Bases) (given now : List Folded) (n : ℕ) (f : Folded) (lt : n < length now) (is : f ≡ get_or now n f) (once : (p : ℕ) → times p (pages_of given) ≤ 1) (s : AreLeavesSwapped old new given now n) where
  next : (fs : List Folded) → drop (suc n) fs ≡ drop 1 (drop n fs)
  next fs = let on : suc n ≡ n + 1 = omega arith in ap (λ k. drop k fs) on ∙ sym (drop-drop 1 n fs)

  rest_further : drop (suc n) now ≡ drop (suc n) given
  rest_further = next now ∙ ap (drop 1) s.rest ∙ sym (next given)

  first : drop n now ≡ f ∷ drop (suc n) now
  first = drop-cons now n f lt ∙ ap (λ g. g ∷ drop (suc n) now) (sym is)

  behind : drop n given ≡ f ∷ drop (suc n) given
  behind = sym s.rest ∙ first ∙ ap (λ l. f ∷ l) rest_further

  -- its page is none of those before
  apart : times f.page (pages_of (take n now)) ≡ 0
  apart =
      let one : one_if (f.page == f.page) ≡ 1 = ap one_if ((unsigned_Decides f.page f.page).1 refl) in
      omega (arith, one, ap (λ l. times f.page (pages_of l)) first, times_parts f.page n now, ap (times f.page) s.pages, once f.page)

  module _ (g : LeafView ValueBytes) (at : slice_get new f.page ≡ Some (Some (LeafPage g))) where
    abbrev swapped : Folded
    swapped = record f { leaf = g }

    abbrev new' : Bases
    new' = set new f.page (base_of f)

    before : put_leaves new' (take n now) ≡ set old f.page (base_of f)
    before = put_set_other base_of new (take n now) f.page (base_of f) apart ∙ ap (λ l. set l f.page (base_of f)) s.back

    at_old : slice_get old f.page ≡ Some (base_of swapped)
    at_old = ap (λ l. slice_get l f.page) (sym s.back) ∙ put_other base_of new (take n now) f.page apart ∙ at

    pub leaves_swapped_next : AreLeavesSwapped old new' given (set now n swapped) (n + 1)
    leaves_swapped_next = rw add-one (record {
      put = sym (ap (put_leaves new) behind) ∙ s.put;
      back =
          ap (put_leaves new') taken
          ∙ put_more base_of new' (take n now) swapped
          ∙ ap (λ l. set l f.page (base_of swapped)) before
          ∙ set-set old f.page (base_of f) (base_of swapped)
          ∙ set_same old f.page (base_of swapped) at_old;
      rest = drop-set-lt (suc n) now n swapped (omega arith) ∙ rest_further;
      pages = same_pages ∙ s.pages;
      leaves = all_still new f.page f.leaf (drop (suc n) given) (subst (AllByRecursion (λ h. IsLeafAt new h.page)) behind s.leaves).1;
    })
      where
        taken : take (suc n) (set now n swapped) ≡ take n now ++ swapped ∷ []
        taken = let on : suc n ≡ n + 1 = omega arith in ap (λ k. take k (set now n swapped)) on ∙ take_more_set now n swapped lt

        same_pages : pages_of (set now n swapped) ≡ pages_of now
        same_pages = by now n lt is
          where
            by : (fs : List Folded) (i : ℕ) → i < length fs → f ≡ get_or fs i f → pages_of (set fs i swapped) ≡ pages_of fs
            by [] i lt is = absurd (omega (arith, lt))
            by (h ∷ fs) zero lt is = ap (λ (k : Folded). k.page ∷ pages_of fs) is
            by (h ∷ fs) (suc i) lt is = ap (λ l. h.page ∷ l) (by fs i (omega (arith, lt)) is)
