-- Identifiers that are given back one after another.
use Rattle.std.proofs.Common.{inl, inr, ◌⊎◌, ◌≡◌, ℕ, zero, suc, ◌+◌, ◌<◌, ◌≤◌, List, [], ◌∷◌, length, Option, Some, None, refl, sym, ap, ◌∙◌, subst, arith}
use Rattle.std.proofs.lemmas.Bool.{cases_eq}
use Rattle.std.specs.List.{Contains}
use Rattle.std.specs.Prelude.{IfSome, slice_index_or}
use Rattle.bw_key.specs.Order.{KeyBytes}
use Rattle.bw_page.specs.declared.pages.RemovedPage.{RemovedPage}
use Rattle.bw_level.specs.Before.{removed_at}
use Rattle.bw_level.specs.Freeing.{IsUnreached}
use Rattle.bw_level.specs.Levels.{row}
use Rattle.bw_level.specs.Searches.{AllStand, IsInLevels}
use Rattle.bw_level.specs.Slots.{Slot, Free, Gone, Live, left_of, left_of_slot, slot_at}
use Rattle.bw_level.specs.KeptLevels.{IsTerm}
use Rattle.bw_look.specs.RemovedPages.{HasEachRemoved}
use Rattle.bw_tree.specs.TreeFreeing.{HasFreed, MayBeFreed}
use Rattle.bw_look.specs.View.{TreeView}
use Rattle.bw_steps.specs.Releasing.{AreFreed, HasNoneToFree, IsLeftOut, IsLeftToFree, IsReleaseStep, taken_count}
use Rattle.bw_steps.specs.declared.steps.Did.{Did}
use Rattle.bw_steps.specs.declared.steps.Did.TheVariants.{Done, NotNeeded}
use Rattle.bw_steps.proofs.TakenLemmas.{not_free, taken_one}

no_left : {c : ℕ} → ◌≡◌ {A = Option ℕ} None (Some c) → ⊥
no_left e = cc

one_left : {l q : ℕ} → Some l ≡ Some q → l ≡ q
one_left e = cc

-- the left neighbour of a removed page
pub left_there : (slot : Slot) (removed : RemovedPage) → Some removed ≡ removed_at slot → Some removed.left ≡ left_of_slot slot
left_there (Live s) removed is = cc
left_there (Gone l) removed is = cc
left_there Free removed is = cc

pub none_there : (slot : Slot) → ◌≡◌ {A = Option RemovedPage} None (removed_at slot) → ◌≡◌ {A = Option ℕ} None (left_of_slot slot)
none_there (Live s) is = refl
none_there (Gone l) is = cc
none_there Free is = refl

-- pages that aren't free are as they were, on the same levels: then nothing leads to a page to which nothing led
module _ (old new : TreeView) (others : (p : ℕ) → (slot_at new.slots p ≡ Free → ⊥) → slot_at new.slots p ≡ slot_at old.slots p) (levels : new.levels ≡ old.levels) where
  term_was : (n : ℕ) (k : KeyBytes) (c : ℕ) → IsTerm new.slots new.levels n k c → IsTerm old.slots old.levels n k c
  term_was n k c term = record {
    page = term.page;
    in_level = subst (λ (l : List (List ℕ)). Contains (row l (suc n)) term.page) levels term.in_level;
    state = term.state;
    is = sym (others term.page (λ free. not_free (sym term.is ∙ free))) ∙ term.is;
    named = term.named;
  }

  left_was : (q c : ℕ) → left_of new.slots q ≡ Some c → left_of old.slots q ≡ Some c
  left_was q c is = sym (ap left_of_slot (others q (λ free. no_left (sym (ap left_of_slot free) ∙ is)))) ∙ is

  pub unreached_on : (p : ℕ) → IsUnreached old.slots old.levels p → IsUnreached new.slots new.levels p
  unreached_on p was = record {
    stands = λ on. was.stands (subst (λ (l : List (List ℕ)). IsInLevels l p) levels on);
    named = λ n k lt term. was.named n k (omega (arith, lt, ap length levels)) (term_was n k p term);
    left = λ q is. was.left q (left_was q p is);
  }

pub freed_itself : (tree : TreeView) → tree.staged ≡ None → AreFreed tree tree
freed_itself tree none = record {
  freed = λ p free. inl free;
  others = λ p taken. refl;
  levels = refl;
  contents = λ stamp. refl;
  heads = refl;
  root = refl;
  records = refl;
  next = refl;
  staged = none;
}

pub freed_on : (first old new : TreeView) → AreFreed first old → AreFreed old new → AreFreed first new
freed_on first old new a b = record {
  freed = λ p free. by p (b.freed p free);
  others = λ p taken. b.others p taken ∙ a.others p (λ free. taken (b.others p taken ∙ free));
  levels = b.levels ∙ a.levels;
  contents = λ stamp. b.contents stamp ∙ a.contents stamp;
  heads = b.heads ∙ a.heads;
  root = b.root ∙ a.root;
  records = b.records ∙ a.records;
  next = b.next ∙ a.next;
  staged = b.staged;
}
  where
    or_before : (p : ℕ) → (slot_at first.slots p ≡ Free) ⊎ IsUnreached old.slots old.levels p → (slot_at first.slots p ≡ Free) ⊎ IsUnreached new.slots new.levels p
    or_before p (inl free) = inl free
    or_before p (inr was) = inr (unreached_on old new b.others b.levels p was)

    by : (p : ℕ) → (slot_at old.slots p ≡ Free) ⊎ IsUnreached new.slots new.levels p → (slot_at first.slots p ≡ Free) ⊎ IsUnreached new.slots new.levels p
    by p (inl free) = or_before p (a.freed p free)
    by p (inr now) = inr now

-- one identifier
module _ (old new : TreeView) (p : ℕ) (may : MayBeFreed old p) (h : HasFreed old new p) where
  others_same : (q : ℕ) → (slot_at new.slots q ≡ Free → ⊥) → slot_at new.slots q ≡ slot_at old.slots q
  others_same q taken = h.freed.others q (λ same. taken (ap (slot_at new.slots) same ∙ h.freed.free))

  pub freed_one : AreFreed old new
  freed_one = record {
    freed = λ q free. by q free (cases_eq q p);
    others = others_same;
    levels = h.levels;
    contents = h.contents;
    heads = h.heads;
    root = h.root;
    records = h.records;
    next = h.next;
    staged = h.staged;
  }
    where
      by : (q : ℕ) → slot_at new.slots q ≡ Free → (q ≡ p) ⊎ (q ≡ p → ⊥) → (slot_at old.slots q ≡ Free) ⊎ IsUnreached new.slots new.levels q
      by q free (inl same) = inr (subst (IsUnreached new.slots new.levels) (sym same) (unreached_on old new others_same h.levels p may.unreached))
      by q free (inr other) = inl (sym (h.freed.others q other) ∙ free)

  -- one fewer is taken
  pub taken_fewer : taken_count new.slots < taken_count old.slots
  taken_fewer = omega (arith, taken_one new.slots old.slots p h.freed.free may.taken (λ q free. by q free (cases_eq q p)))
    where
      by : (q : ℕ) → slot_at old.slots q ≡ Free → (q ≡ p) ⊎ (q ≡ p → ⊥) → slot_at new.slots q ≡ Free
      by q free (inl same) = ap (slot_at new.slots) same ∙ h.freed.free
      by q free (inr other) = h.freed.others q other ∙ free

  term_is : (n : ℕ) (k : KeyBytes) (c : ℕ) → suc n < length old.levels → IsTerm old.slots old.levels n k c → IsTerm new.slots new.levels n k c
  term_is n k c lt term = record {
    page = term.page;
    in_level = subst (λ (l : List (List ℕ)). Contains (row l (suc n)) term.page) (sym h.levels) term.in_level;
    state = term.state;
    is = h.freed.others term.page other ∙ term.is;
    named = term.named;
  }
    where
      other : term.page ≡ p → ⊥
      other same = may.unreached.stands (record { level = suc n; within = lt; in_level = subst (Contains (row old.levels (suc n))) same term.in_level })

  -- What may be given back behind it might be before, or it is the page into which this one was removed.
  pub left_to_free : (q : ℕ) → MayBeFreed new q → (left_of old.slots p ≡ Some q) ⊎ ((q ≡ p → ⊥) × MayBeFreed old q)
  left_to_free q now = by (cases_left (left_of old.slots p))
    where
      cases_left : (o : Option ℕ) → (o ≡ Some q) ⊎ (o ≡ Some q → ⊥)
      cases_left None = inr no_left
      cases_left (Some l) = or_other (cases_eq l q)
        where
          or_other : (l ≡ q) ⊎ (l ≡ q → ⊥) → (Some l ≡ Some q) ⊎ (Some l ≡ Some q → ⊥)
          or_other (inl same) = inl (ap (λ n. Some n) same)
          or_other (inr other) = inr (λ e. other (one_left e))

      other : q ≡ p → ⊥
      other same = now.taken (ap (slot_at new.slots) same ∙ h.freed.free)

      still : (left_of old.slots p ≡ Some q → ⊥) → (r : ℕ) → left_of old.slots r ≡ Some q → (r ≡ p) ⊎ (r ≡ p → ⊥) → ⊥
      still none r is (inl same) = none (ap (left_of old.slots) (sym same) ∙ is)
      still none r is (inr not) = now.unreached.left r (ap left_of_slot (h.freed.others r not) ∙ is)

      by : (left_of old.slots p ≡ Some q) ⊎ (left_of old.slots p ≡ Some q → ⊥) → (left_of old.slots p ≡ Some q) ⊎ ((q ≡ p → ⊥) × MayBeFreed old q)
      by (inl is) = inl is
      by (inr none) = inr (
        other,
        record {
          taken = λ free. now.taken (h.freed.others q other ∙ free);
          unreached = record {
            stands = λ on. now.unreached.stands (subst (λ (l : List (List ℕ)). IsInLevels l q) (sym h.levels) on);
            named = λ n k lt term. now.unreached.named n k (omega (arith, lt, ap length h.levels)) (term_is n k q lt term);
            left = λ r is. still none r is (cases_eq r p);
          };
        },
      )

-- what a step does that may not be needed
pub step_freed : (old new : TreeView) (p : ℕ) (did : Did) → old.staged ≡ None → IsReleaseStep old new p did → AreFreed old new
step_freed old new p Done none h = freed_one old new p h.0 h.1
step_freed old new p NotNeeded none h = subst (AreFreed old) (sym h.0) (freed_itself old none)

pub left_done : (old new : TreeView) (p : ℕ) (left : Option ℕ) → left ≡ left_of old.slots p → IsReleaseStep old new p Done → (q : ℕ) → MayBeFreed new q → (left ≡ Some q) ⊎ ((q ≡ p → ⊥) × MayBeFreed old q)
left_done old new p left is h q now = subst (λ (o : Option ℕ). (o ≡ Some q) ⊎ ((q ≡ p → ⊥) × MayBeFreed old q)) (sym is) (left_to_free old new p h.0 h.1 q now)

pub fewer_left : (old new : TreeView) (p : ℕ) (left : Option ℕ) → IsReleaseStep old new p Done → IfSome left (λ l. taken_count new.slots < taken_count old.slots)
fewer_left old new p None h = tt
fewer_left old new p (Some l) h = taken_fewer old new p h.0 h.1

pub left_still : (old new : TreeView) (p : ℕ) → IsReleaseStep old new p NotNeeded → (q : ℕ) → MayBeFreed new q → (q ≡ p → ⊥) × MayBeFreed old q
left_still old new p h q now = (λ same. h.1 (subst (MayBeFreed old) same was), was)
  where
    was : MayBeFreed old q
    was = subst (λ (v : TreeView). MayBeFreed v q) h.0 now

-- One after another.
pub begins_free : (tree : TreeView) (page : ℕ) → IsLeftToFree tree tree page page
begins_free tree page p may = by (cases_eq page p)
  where
    by : (page ≡ p) ⊎ (page ≡ p → ⊥) → (page ≡ p) ⊎ ((p ≡ page → ⊥) × MayBeFreed tree p)
    by (inl same) = inl same
    by (inr other) = inr (λ e. other (sym e), may)

module _ (first old new : TreeView) (page next : ℕ) (so_far : IsLeftToFree first old page next) where
  or_sooner : (p : ℕ) → (p ≡ next → ⊥) × MayBeFreed old p → (p ≡ page → ⊥) × MayBeFreed first p
  or_sooner p was = by (so_far p was.1)
    where
      by : (next ≡ p) ⊎ ((p ≡ page → ⊥) × MayBeFreed first p) → (p ≡ page → ⊥) × MayBeFreed first p
      by (inl same) = absurd (was.0 (sym same))
      by (inr sooner) = sooner

  pub goes_on_free : (left : ℕ) → ((p : ℕ) → MayBeFreed new p → (Some left ≡ Some p) ⊎ ((p ≡ next → ⊥) × MayBeFreed old p)) → IsLeftToFree first new page left
  goes_on_free left goes p now = by (goes p now)
    where
      by : (Some left ≡ Some p) ⊎ ((p ≡ next → ⊥) × MayBeFreed old p) → (left ≡ p) ⊎ ((p ≡ page → ⊥) × MayBeFreed first p)
      by (inl is) = inl (one_left is)
      by (inr was) = inr (or_sooner p was)

  pub ends_free : ((p : ℕ) → MayBeFreed new p → (◌≡◌ {A = Option ℕ} None (Some p)) ⊎ ((p ≡ next → ⊥) × MayBeFreed old p)) → IsLeftOut first new page
  ends_free goes p now = by (goes p now)
    where
      by : (◌≡◌ {A = Option ℕ} None (Some p)) ⊎ ((p ≡ next → ⊥) × MayBeFreed old p) → (p ≡ page → ⊥) × MayBeFreed first p
      by (inl is) = absurd (no_left is)
      by (inr was) = or_sooner p was

-- And from page to page, along a list: a page is one of those from a place on.
abbrev pub IsFrom : List ℕ → ℕ → ℕ → Type 0
IsFrom pages n p = (k : ℕ) × (n ≤ k) × (k < length pages) × (slice_index_or pages k p ≡ p)

-- a page that may be given back is a removed one, since each other one stands on a level
pub among_removed : (tree : TreeView) (pages : List ℕ) → AllStand tree.slots tree.levels → HasEachRemoved tree.slots pages → (p : ℕ) → MayBeFreed tree p → IsFrom pages 0 p
among_removed tree pages stand each p may = by (slot_at tree.slots p) refl
  where
    by : (slot : Slot) → slot_at tree.slots p ≡ slot → IsFrom pages 0 p
    by Free is = absurd (may.taken is)
    by (Live s) is = absurd (may.unreached.stands (stand p s is))
    by (Gone removed) is = let has = each p removed is in (has.0, omega arith, has.1, has.2)

any_default : (xs : List ℕ) (k d e : ℕ) → k < length xs → slice_index_or xs k d ≡ slice_index_or xs k e
any_default [] k d e lt = absurd (omega (arith, lt))
any_default (x ∷ xs) zero d e lt = refl
any_default (x ∷ xs) (suc k) d e lt = any_default xs k d e (omega (arith, lt))

-- behind the run that begins at a place, those from the next one on are left
pub left_behind : (old new : TreeView) (pages : List ℕ) (n page : ℕ) → page ≡ slice_index_or pages n page → ((p : ℕ) → MayBeFreed old p → IsFrom pages n p) → IsLeftOut old new page → (p : ℕ) → MayBeFreed new p → IsFrom pages (n + 1) p
left_behind old new pages n page is so_far out p now = by (cases_eq from.0 n)
  where
    was : (p ≡ page → ⊥) × MayBeFreed old p
    was = out p now

    from : IsFrom pages n p
    from = so_far p was.1

    by : (from.0 ≡ n) ⊎ (from.0 ≡ n → ⊥) → IsFrom pages (n + 1) p
    by (inl here) = absurd (was.0 (sym from.3 ∙ any_default pages from.0 p page from.2 ∙ ap (λ k. slice_index_or pages k page) here ∙ sym is))
    by (inr other) = (from.0, later from.0 n from.1 other, from.2, from.3)
      where
        later : (k n : ℕ) → n ≤ k → (k ≡ n → ⊥) → n + 1 ≤ k
        later k n le other = grind (arith)

pub none_behind : (tree : TreeView) (pages : List ℕ) (n : ℕ) → length pages ≤ n → ((p : ℕ) → MayBeFreed tree p → IsFrom pages n p) → HasNoneToFree tree
none_behind tree pages n all left p may = let from = left p may in omega (arith, all, from.1, from.2)
