-- What is left of a merge that was to be finished.
use Rattle.std.proofs.Common.{inl, inr, ◌⊎◌, ◌≡◌, ℕ, suc, ◌<◌, Bool, true, false, not, T, List, [], length, Option, Some, None, Result, Ok, Err, refl, sym, ap, ◌∙◌, subst, arith}
use Rattle.std.proofs.lemmas.Bool.{cases_eq}
use Rattle.std.specs.FinMap.{is_sorted}
use Rattle.std.specs.List.{Contains}
use Rattle.std.specs.Prelude.{MatchOption, OnErr}
use Rattle.std.specs.Ordering.{is_eq}
use Rattle.bw_key.specs.Order.{KeyBytes, key_cmp, key_eq, key_ties}
use Rattle.bw_page.specs.declared.pages.RemovedPage.{RemovedPage}
use Rattle.bw_page.proofs.KeyLemmas.{cmp_self}
use Rattle.bw_page.proofs.Search.{same_keys}
use Rattle.bw_delta.proofs.Filters.{kept, was_there}
use Rattle.bw_level.specs.Children.{HasChildAt, body_without_child, state_without_child}
use Rattle.bw_level.specs.Freeing.{IsUnreached}
use Rattle.bw_level.specs.KeptLevels.{IsTerm}
use Rattle.bw_level.specs.Levels.{AreLevels, IsHomeAt, row}
use Rattle.bw_level.specs.Searches.{IsInLevels}
use Rattle.bw_level.specs.Slots.{Slot, PageState, Body, Pairs, Children, Free, Gone, Live, IsSoundBody, children_of, left_of, left_of_slot, slot_at}
use Rattle.bw_level.proofs.AboveLemmas.{one_above}
use Rattle.bw_level.proofs.IndexLemmas.{one_child}
use Rattle.bw_level.proofs.RowLemmas.{InRow, in_row}
use Rattle.bw_look.specs.RemovedPages.{HasNoNamerOfRemoved}
use Rattle.bw_look.specs.Routing.{IsInLevel}
use Rattle.bw_look.specs.View.{TreeView}
use Rattle.bw_look.proofs.PageLemmas.{entry_home}
use Rattle.bw_tree.specs.TreeFreeing.{MayBeFreed}
use Rattle.bw_steps.specs.MergeSteps.{HasDroppedRemoved, IsAbsorptionFinishStep}
use Rattle.bw_steps.specs.Releasing.{AreFreed, IsLeftOut, IsLeftToFree}
use Rattle.bw_steps.specs.Steps.{IsSameOver}
use Rattle.bw_steps.specs.declared.steps.Did.{Did}
use Rattle.bw_steps.specs.declared.steps.Did.TheVariants.{Done, NotNeeded}
use Rattle.bw_steps.proofs.FreedLemmas.{begins_free}
use Rattle.bw_shape.specs.Limits.{LimitsView, AreWithinBut}
use Rattle.bw_shape.specs.Tidying.{IsLeftToFinish, KeepsWithin}

not_gone : {s : PageState} {g : RemovedPage} → Live s ≡ Gone g → ⊥
not_gone e = cc

not_free : {s : PageState} → Live s ≡ Free → ⊥
not_free e = cc

gone_free : {g : RemovedPage} → Gone g ≡ Free → ⊥
gone_free e = cc

one_state : {s t : PageState} → Live s ≡ Live t → s ≡ t
one_state e = cc

one_removed : {g h : RemovedPage} → Gone g ≡ Gone h → g ≡ h
one_removed e = cc

no_left : {q : ℕ} → ◌≡◌ {A = Option ℕ} None (Some q) → ⊥
no_left e = cc

different : false ≡ true → ⊥
different e = cc

eq_self : (key : KeyBytes) → key_eq key key ≡ true
eq_self key = key_ties key key ∙ ap is_eq (cmp_self key)

-- a page's separators rise
rising : (low : KeyBytes) (high : Option KeyBytes) (side : Option ℕ) (b : Body) → IsSoundBody low high side b → T (is_sorted key_cmp (children_of b))
rising low high side (Pairs pairs writes) sound = tt
rising low high side (Children level children) sound = sound.page.sorted

-- the entries at other separators stay, and none is left at this one
child_stays : (sep k : KeyBytes) (c : ℕ) (b : Body) → Contains (children_of b) (k, c) → key_eq sep k ≡ false → Contains (children_of (body_without_child sep b)) (k, c)
child_stays sep k c (Pairs pairs writes) has other = has
child_stays sep k c (Children level children) has other = kept (λ (e : KeyBytes × ℕ). not (key_eq sep e.0)) children (k, c) has (ap not other)

none_there : (sep : KeyBytes) (c : ℕ) (b : Body) → Contains (children_of (body_without_child sep b)) (sep, c) → ⊥
none_there sep c (Pairs pairs writes) has = absurd (omega (arith, has.1))
none_there sep c (Children level children) has =
    different (sym (ap not (eq_self sep)) ∙ (was_there (λ (e : KeyBytes × ℕ). not (key_eq sep e.0)) children (sep, c) has).1)

-- No page names the removed one, and other pages whose identifiers may be given back were such before.
pub record IsUnnamed (old mid : TreeView) (page : ℕ) : Type 0 where
  pub unnamed : HasNoNamerOfRemoved mid page
  pub before : (p : ℕ) → (p ≡ page → ⊥) → MayBeFreed mid p → MayBeFreed old p

-- the page above no longer names it
module _ (old mid : TreeView) (page parent : ℕ) (lawful : AreLevels old.slots old.root old.levels) (d : HasDroppedRemoved old mid page parent) where
  abbrev removed : RemovedPage
  removed = d.was.removed

  abbrev sep : KeyBytes
  sep = removed.low

  abbrev was : PageState
  was = d.lost.dropped.was

  there : Contains (children_of was.body) (sep, page)
  there = subst (λ (o : Slot). HasChildAt o sep page) d.lost.dropped.is d.was.named

  sorted : T (is_sorted key_cmp (children_of was.body))
  sorted = subst (λ (s : PageState). T (is_sorted key_cmp (children_of s.body))) (one_state (sym st.stands.is ∙ d.lost.dropped.is)) (rising st.stands.state.low st.stands.state.high st.stands.state.side st.stands.state.body st.stands.sound)
    where
      on : IsInLevel old parent (suc removed.level)
      on = d.was.above

      st : InRow old.slots (suc removed.level) (row old.levels (suc removed.level)) on.1.0 parent
      st = in_row old.slots (suc removed.level) [] (row old.levels (suc removed.level)) on.1.0 parent (lawful.rows (suc removed.level) on.0) on.1.1 on.1.2

  -- an index entry for another page stays
  term_stays : (p n : ℕ) (k : KeyBytes) → (p ≡ page → ⊥) → IsTerm old.slots old.levels n k p → IsTerm mid.slots mid.levels n k p
  term_stays p n k other t = by (cases_eq t.page parent)
    where
      in_level : Contains (row mid.levels (suc n)) t.page
      in_level = subst (λ (l : List (List ℕ)). Contains (row l (suc n)) t.page) (sym d.lost.levels) t.in_level

      its : t.page ≡ parent → Contains (children_of was.body) (k, p)
      its here = subst (λ (s : PageState). Contains (children_of s.body) (k, p)) (one_state (sym t.is ∙ ap (slot_at old.slots) here ∙ d.lost.dropped.is)) t.named

      apart : t.page ≡ parent → (b : Bool) → key_eq sep k ≡ b → b ≡ false
      apart here false e = refl
      apart here true e =
          absurd (other (one_child (children_of was.body) sep p page sorted (subst (λ (x : KeyBytes). Contains (children_of was.body) (x, p)) (sym (same_keys sep k e)) (its here)) there))

      by : (t.page ≡ parent) ⊎ (t.page ≡ parent → ⊥) → IsTerm mid.slots mid.levels n k p
      by (inl here) = record {
        page = t.page;
        in_level = in_level;
        state = state_without_child sep was;
        is = ap (slot_at mid.slots) here ∙ d.lost.dropped.now;
        named = child_stays sep k p was.body (its here) (apart here (key_eq sep k) refl);
      }
      by (inr elsewhere) = record { page = t.page; in_level = in_level; state = t.state; is = d.lost.dropped.others t.page elsewhere ∙ t.is; named = t.named }

  -- so nothing led before to another page to which nothing leads
  may_before : (p : ℕ) → (p ≡ page → ⊥) → MayBeFreed mid p → MayBeFreed old p
  may_before p other m = record {
    taken = taken (cases_eq p parent);
    unreached = record {
      stands = λ on. m.unreached.stands (subst (λ (l : List (List ℕ)). IsInLevels l p) (sym d.lost.levels) on);
      named = λ n k lt t. m.unreached.named n k (omega (arith, lt, ap length d.lost.levels)) (term_stays p n k other t);
      left = λ q is. left q is (cases_eq q parent);
    };
  }
    where
      taken : (p ≡ parent) ⊎ (p ≡ parent → ⊥) → slot_at old.slots p ≡ Free → ⊥
      taken (inl here) free = not_free (sym d.lost.dropped.is ∙ ap (slot_at old.slots) (sym here) ∙ free)
      taken (inr elsewhere) free = m.taken (d.lost.dropped.others p elsewhere ∙ free)

      left : (q : ℕ) → left_of old.slots q ≡ Some p → (q ≡ parent) ⊎ (q ≡ parent → ⊥) → ⊥
      left q is (inl here) = no_left (sym (ap left_of_slot d.lost.dropped.is) ∙ ap (left_of old.slots) (sym here) ∙ is)
      left q is (inr elsewhere) = m.unreached.left q (ap left_of_slot (d.lost.dropped.others q elsewhere) ∙ is)

  -- the page is removed still, at the same key
  still : slot_at mid.slots page ≡ Gone removed
  still = d.lost.dropped.others page (λ here. not_gone (sym d.lost.dropped.is ∙ ap (slot_at old.slots) (sym here) ∙ d.was.is)) ∙ d.was.is

  none_left : HasNoNamerOfRemoved mid page
  none_left other s = by (cases_eq other parent)
    where
      same : s.removed ≡ removed
      same = one_removed (sym s.is ∙ still)

      named : HasChildAt (slot_at mid.slots other) sep page
      named = subst (λ (r : RemovedPage). HasChildAt (slot_at mid.slots other) r.low page) same s.named

      above : IsInLevel old other (suc removed.level)
      above =
          subst (λ (l : List (List ℕ)). (suc removed.level < length l) × Contains (row l (suc removed.level)) other) d.lost.levels
          (subst (λ (r : RemovedPage). IsInLevel mid other (suc r.level)) same s.above)

      home : (x : ℕ) → IsInLevel old x (suc removed.level) → HasChildAt (slot_at old.slots x) sep page → IsHomeAt old.slots old.levels sep (suc removed.level) x
      home x on has = entry_home old old.root lawful x removed.level sep page on has

      by : (other ≡ parent) ⊎ (other ≡ parent → ⊥) → ⊥
      by (inl here) = none_there sep page was.body (subst (λ (o : Slot). HasChildAt o sep page) (ap (slot_at mid.slots) here ∙ d.lost.dropped.now) named)
      by (inr elsewhere) =
          elsewhere (one_above old.slots old.root old.levels lawful (suc removed.level) sep other parent
          (home other above (subst (λ (o : Slot). HasChildAt o sep page) (d.lost.dropped.others other elsewhere) named))
          (home parent d.was.above d.was.named))

-- what the step leaves that finishes a merge
pub step_unnamed : (old mid : TreeView) (page : ℕ) (did : Did) → AreLevels old.slots old.root old.levels → IsAbsorptionFinishStep old mid page did → IsUnnamed old mid page
step_unnamed old mid page Done lawful h = record {
  unnamed = none_left old mid page h.0 lawful h.1;
  before = may_before old mid page h.0 lawful h.1;
}
step_unnamed old mid page NotNeeded lawful h = record {
  unnamed = subst (λ (v : TreeView). HasNoNamerOfRemoved v page) (sym h.0) h.1;
  before = λ p other m. subst (λ (v : TreeView). MayBeFreed v p) h.0 m;
}

-- where there was nothing to finish
pub still_unnamed : (tree : TreeView) (page : ℕ) → HasNoNamerOfRemoved tree page → IsUnnamed tree tree page
still_unnamed tree page none = record { unnamed = none; before = λ p other m. m }

-- identifiers that are given back make no page name it
module _ (old mid new : TreeView) (page : ℕ) (u : IsUnnamed old mid page) (f : AreFreed mid new) where
  pub unnamed_on : HasNoNamerOfRemoved new page
  unnamed_on parent s = u.unnamed parent (record {
    removed = s.removed;
    is = sym (f.others page (λ free. gone_free (sym s.is ∙ free))) ∙ s.is;
    above = subst (λ (l : List (List ℕ)). (suc s.removed.level < length l) × Contains (row l (suc s.removed.level)) parent) f.levels s.above;
    named = subst (λ (o : Slot). HasChildAt o s.removed.low page) (f.others parent (λ free. subst (λ (o : Slot). HasChildAt o s.removed.low page) free s.named)) s.named;
  })

  pub left_out : IsLeftOut mid new page → IsLeftOut old new page
  left_out out p now = let was = out p now in (was.0, u.before p was.0 was.1)

  goes_on : (next : ℕ) → IsLeftToFree mid new page next → IsLeftToFinish old new page next
  goes_on next left = record {
    named = λ parent s. absurd (unnamed_on parent s);
    taken = λ p now. by p (left p now);
  }
    where
      by : (p : ℕ) → (next ≡ p) ⊎ ((p ≡ page → ⊥) × MayBeFreed mid p) → (next ≡ p) ⊎ ((p ≡ page → ⊥) × MayBeFreed old p)
      by p (inl same) = inl same
      by p (inr was) = inr (was.0, u.before p was.0 was.1)

  pub stopped_at : (next : Option ℕ) → MatchOption next ⊥ (IsLeftToFree mid new page) → MatchOption next ⊥ (IsLeftToFinish old new page)
  stopped_at None none = none
  stopped_at (Some next) left = goes_on next left

-- where the step was refused, all of it is left
pub all_left : (IsOne : ℕ → Type 0) (old new : TreeView) (page : ℕ) → IsSameOver IsOne old new → IsLeftToFinish old new page page
all_left IsOne old new page same = record { named = λ parent s. refl; taken = by same }
  where
    by : IsSameOver IsOne old new → IsLeftToFree old new page page
    by (inl is) = subst (λ (v : TreeView). IsLeftToFree old v page page) (sym is) (begins_free old page)
    by (inr one) = λ p now. begins_free old page p (record {
      taken = λ free. now.taken (ap (λ (v : TreeView). slot_at v.slots p) one.1.1.view ∙ free);
      unreached = subst (λ (v : TreeView). IsUnreached v.slots v.levels p) one.1.1.view now.unreached;
    })

pub refused_at : (IsOne : ℕ → Type 0) (old new : TreeView) (page : ℕ) (next : Option ℕ) → next ≡ Some page → IsSameOver IsOne old new → MatchOption next ⊥ (IsLeftToFinish old new page)
refused_at IsOne old new page next is same = subst (λ (o : Option ℕ). MatchOption o ⊥ (IsLeftToFinish old new page)) (sym is) (all_left IsOne old new page same)

pub refused_still : (tree : TreeView) (page : ℕ) (next : Option ℕ) → next ≡ Some page → MatchOption next ⊥ (IsLeftToFinish tree tree page)
refused_still tree page next is = refused_at (λ (p : ℕ). ⊥) tree tree page next is (inl refl)

-- steps of a whole tree, whichever pages are due
pub within_all : (limits : LimitsView) (old new : TreeView) (due due' : List ℕ) → due' ≡ due → ((pages : List ℕ) → KeepsWithin old new pages pages) → AreWithinBut limits old due → AreWithinBut limits new due'
within_all limits old new due due' same keeps but = subst (AreWithinBut limits new) (sym same) (keeps due limits but)

-- a merge that is unfinished is told, whatever became of it
pub is_told : {T E : Type 0} (P : Type 0) (r : Result T E) (old new : TreeView) (page : ℕ) (next : Option ℕ) → MatchOption next ⊥ (IsLeftToFinish old new page) → OnErr r (next ≡ None → P)
is_told P (Ok x) old new page next told = tt
is_told P (Err e) old new page next told = λ none. absurd (subst (λ (o : Option ℕ). MatchOption o ⊥ (IsLeftToFinish old new page)) none told)
