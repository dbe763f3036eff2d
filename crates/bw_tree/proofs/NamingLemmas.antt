-- A page that names several pages more leaves a tree that holds the same.
use Rattle.std.proofs.Common.{inl, inr, ◌⊎◌, set, ◌≡◌, ℕ, suc, ◌+◌, ◌<◌, ◌≤◌, ◌^◌, true, T, List, [], ◌∷◌, ◌++◌, length, length-append, Option, Some, None, refl, sym, ap, ◌∙◌, subst, arith}
use Rattle.std.proofs.lemmas.Bool.{cases_eq, cases_lt}
use Rattle.std.proofs.lemmas.Option.{slice_get-get_or}
use Rattle.std.proofs.lemmas.List.{get_or-set_same, get_or-set_other, length-map, length-set}
use Rattle.std.specs.Prelude.{slice_get, slice_index}
use Rattle.std.specs.List.{AllByRecursion, list_all}
use Rattle.std.specs.Ordering.{is_lt}
use Rattle.std.specs.FinMap.{put}
use Rattle.bw_key.specs.Order.{KeyBytes, key_cmp}
use Rattle.bw_model.specs.Contents.{is_below_end, is_in_range, is_pair_in_range}
use Rattle.bw_page.specs.Inners.{InnerView}
use Rattle.bw_page.specs.declared.pages.Page.{Page}
use Rattle.bw_page.proofs.KeyLemmas.{below_back}
use Rattle.bw_page.proofs.Truths.{both_of, not_holds}
use Rattle.bw_delta.specs.History.{HasDistinctStamps}
use Rattle.bw_level.specs.Changes.{Bases, plain}
use Rattle.bw_chain.specs.Chains.{AllEnd, Records, slot_of_word, slots_of}
use Rattle.bw_level.specs.Children.{FitsChild, HasChild, state_with_child}
use Rattle.bw_level.specs.Laws.{KeepsAll}
use Rattle.bw_level.specs.Levels.{AreLevels, row}
use Rattle.bw_level.specs.Searches.{plain_inner}
use Rattle.bw_level.specs.Slots.{Slot, PageState, Children, Free, Live, slot_at}
use Rattle.bw_chain.specs.Supports.{OwnBases, base_under}
use Rattle.bw_chain.proofs.BaseLemmas.{all_end, low, others_kept, own_after, put_there}
use Rattle.bw_level.proofs.EntryLemmas.{child_kept}
use Rattle.bw_chain.proofs.GrowthLemmas.{append_extends}
use Rattle.bw_chain.proofs.OwnBaseLemmas.{own_number}
use Rattle.bw_chain.proofs.ReadingLemmas.{slot_of_head}
use Rattle.bw_chain.proofs.SupportLemmas.{still_rests}
use Rattle.bw_level.proofs.RouteLemmas.{held}
use Rattle.bw_level.proofs.RowLemmas.{in_row}
use Rattle.bw_page.specs.MergedEntries.{put_all}
use Rattle.bw_tree.specs.TreeChildren.{AreNamed, HasChildren, MayHaveChildren, state_with_children}
use Rattle.bw_look.specs.Routing.{IsInnerPage}
use Rattle.bw_look.specs.Trees.{IsStanding, IsTree, StageWords, view_of}
use Rattle.bw_look.specs.View.{StageView, TreeView}
use Rattle.bw_look.proofs.RoutingLemmas.{slot_past, page_there}
use Rattle.bw_tree.proofs.RebaseLemmas.{put_on}
use Rattle.bw_tree.proofs.StageLemmas.{stands_on}
use Rattle.bw_tree.proofs.StandingLemmas.{contents_same, placed_set, same_levels, standing_kept}

one_state : {s t : PageState} → Live s ≡ Live t → s ≡ t
one_state e = cc

not_free : {s : PageState} → Free ≡ Live s → ⊥
not_free e = cc

-- an inner page with entries among its children is what they make of it one after another
abbrev state_of : InnerView → PageState
state_of inner = record { low = inner.low; high = inner.high; side = inner.side; body = Children inner.level inner.children }

with_all : (es : List (KeyBytes × ℕ)) (inner : InnerView) → plain_inner (record inner { children = put_all es inner.children }) ≡ Live (state_with_children es (state_of inner))
with_all [] inner = refl
with_all (e ∷ es) inner = with_all es (record inner { children = put key_cmp e.0 e.1 inner.children })

pub plain_with : (es : List (KeyBytes × ℕ)) (inner page : InnerView) (slot : Slot) → slot ≡ plain_inner inner → page ≡ record inner { children = put_all es inner.children } → (was : PageState) → slot ≡ Live was → plain_inner page ≡ Live (state_with_children es was)
plain_with es inner page slot read made was is =
    ap plain_inner made ∙ with_all es inner ∙ ap (λ (s : PageState). Live (state_with_children es s)) (one_state (sym read ∙ is))

-- entries that fit lie in the page's range
pub inside_all : (slots : List Slot) (levels : List (List ℕ)) (p : ℕ) (inner : InnerView) (es : List (KeyBytes × ℕ)) → slot_at slots p ≡ plain_inner inner → AllByRecursion (λ e. FitsChild slots levels p e.0 e.1) es → T (list_all (is_pair_in_range inner.low inner.high) es)
inside_all slots levels p inner [] is fit = tt
inside_all slots levels p inner (e ∷ es) is fit =
    let same : fit.0.state ≡ state_of inner = one_state (sym fit.0.is ∙ is) in
    both_of _ _
    (subst (λ (s : PageState). T (is_in_range s.low s.high e.0)) same
    (both_of _ _ (not_holds _ (below_back fit.0.state.low e.0 fit.0.above)) fit.0.inside))
    (inside_all slots levels p inner es is fit.1)

-- lists of pages that are the same page by page
same_list : (xs ys : List Slot) → length ys ≡ length xs → ((p : ℕ) → slot_at ys p ≡ slot_at xs p) → ys ≡ xs
same_list [] [] size each = refl
same_list [] (y ∷ ys) size each = absurd (omega (arith, size))
same_list (x ∷ xs) [] size each = absurd (omega (arith, size))
same_list (x ∷ xs) (y ∷ ys) size each =
    ap (λ (s : Slot). s ∷ ys) (each 0)
    ∙ ap (λ (l : List Slot). x ∷ l) (same_list xs ys (omega (arith, size)) (λ p. each (suc p)))

-- a page that fits still does where the one above names another one
fits_still : (old new : List Slot) (levels : List (List ℕ)) (p : ℕ) (sep : KeyBytes) (child : ℕ) → HasChild old new p sep child → (k : KeyBytes) (c : ℕ) → FitsChild old levels p k c → FitsChild new levels p k c
fits_still old new levels p sep child given k c fits =
    let same : fits.state ≡ given.was = one_state (sym fits.is ∙ given.is) in
    let there = still c fits.child_state fits.child_is in
    record {
      level = fits.level;
      within = fits.within;
      in_level = fits.in_level;
      state = state_with_child sep child given.was;
      is = given.now;
      above = subst (λ (s : PageState). is_lt (key_cmp s.low k) ≡ true) same fits.above;
      inside = subst (λ (s : PageState). T (is_below_end s.high k)) same fits.inside;
      child_in_level = fits.child_in_level;
      child_state = there.0;
      child_is = there.1;
      begins = there.2 ∙ fits.begins;
    }
  where
    still : (x : ℕ) (s : PageState) → slot_at old x ≡ Live s → (t : PageState) × (slot_at new x ≡ Live t) × (t.low ≡ s.low)
    still x s is = by (cases_eq x p)
      where
        by : (x ≡ p) ⊎ (x ≡ p → ⊥) → (t : PageState) × (slot_at new x ≡ Live t) × (t.low ≡ s.low)
        by (inl here) = (
          state_with_child sep child given.was,
          ap (slot_at new) here ∙ given.now,
          ap (λ (t : PageState). t.low) (one_state (sym given.is ∙ ap (slot_at old) (sym here) ∙ is)),
        )
        by (inr other) = (s, given.others x other ∙ is, refl)

all_fit_still : (old new : List Slot) (levels : List (List ℕ)) (p : ℕ) (sep : KeyBytes) (child : ℕ) → HasChild old new p sep child → (es : List (KeyBytes × ℕ)) → AllByRecursion (λ e. FitsChild old levels p e.0 e.1) es → AllByRecursion (λ e. FitsChild new levels p e.0 e.1) es
all_fit_still old new levels p sep child given [] fit = tt
all_fit_still old new levels p sep child given (e ∷ es) fit =
    (fits_still old new levels p sep child given e.0 e.1 fit.0, all_fit_still old new levels p sep child given es fit.1)

-- levels stay where a page names children that fit, as they do for each of them
children_kept : (es : List (KeyBytes × ℕ)) (old new : List Slot) (root : ℕ) (levels : List (List ℕ)) (p : ℕ) → AreLevels old root levels → AllByRecursion (λ e. FitsChild old levels p e.0 e.1) es → HasChildren old new p es → length new ≡ length old → KeepsAll old new root levels levels
children_kept [] old new root levels p lawful fit given size = subst (λ (s : List Slot). KeepsAll old s root levels levels) (sym same) (record { lawful = lawful; exact = λ h. h; stand = λ h. h; writes = refl; contents = λ distinct stamp. refl })
  where
    each : (q : ℕ) → (q ≡ p) ⊎ (q ≡ p → ⊥) → slot_at new q ≡ slot_at old q
    each q (inl here) = ap (slot_at new) here ∙ given.now ∙ sym given.is ∙ ap (slot_at old) (sym here)
    each q (inr other) = given.others q other

    same : new ≡ old
    same = same_list old new size (λ q. each q (cases_eq q p))
children_kept (e ∷ es) old new root levels p lawful fit given size =
    let first = child_kept old mid root levels p e.0 e.1 lawful fit.0 named in
    let rest = children_kept es mid new root levels p first.lawful (all_fit_still old mid levels p e.0 e.1 named es fit.1) others (size ∙ sym (length-set old p (Live next))) in
    record {
      lawful = rest.lawful;
      exact = λ h. rest.exact (first.exact h);
      stand = λ h. rest.stand (first.stand h);
      writes = rest.writes ∙ first.writes;
      contents = λ distinct stamp. rest.contents (subst HasDistinctStamps (sym first.writes) distinct) stamp ∙ first.contents distinct stamp;
    }
  where
    next : PageState
    next = state_with_child e.0 e.1 given.was

    mid : List Slot
    mid = set old p (Live next)

    within : p < length old
    within = held old p (λ free. not_free (sym free ∙ given.is))

    named : HasChild old mid p e.0 e.1
    named = record {
      was = given.was;
      is = given.is;
      now = get_or-set_same old p (Live next) Free within;
      others = λ r other. get_or-set_other old p r (Live next) Free other;
    }

    others : HasChildren mid new p es
    others = record {
      was = next;
      is = get_or-set_same old p (Live next) Free within;
      now = given.now;
      others = λ r other. given.others r other ∙ sym (get_or-set_other old p r (Live next) Free other);
    }

module _ (heads : List ℕ) (bases : Bases) (records more : Records) (root next : ℕ) (t : IsStanding heads bases records root next) (few : length (records ++ more) ≤ 2 ^ 32) (p : ℕ) (within : p < length heads) (es : List (KeyBytes × ℕ)) (count : length more ≡ length es) (fit : MayHaveChildren (view_of heads bases records root next None) p es) (was : PageState) (is : slot_at (slots_of heads bases records) p ≡ Live was) (page : Page) (made : plain page ≡ Live (state_with_children es was)) where
  abbrev old : TreeView
  old = view_of heads bases records root next None

  abbrev records' : Records
  records' = records ++ more

  -- records that no chain names leave all pages as they are
  longer : (slots_of heads bases records' ≡ slots_of heads bases records) × IsStanding heads bases records' root next
  longer = stands_on heads bases records records' root next next t (append_extends records more) (omega (arith, length-append records more)) (omega arith) t.fits few

  t' : IsStanding heads bases records' root next
  t' = longer.1

  abbrev word : ℕ
  word = slice_index heads p

  at_p : slice_get heads p ≡ Some word
  at_p = slice_get-get_or heads p 0 within

  abbrev base : ℕ
  base = base_under records' word

  abbrev heads' : List ℕ
  heads' = set heads p base

  abbrev bases' : Bases
  bases' = set bases base (Some page)

  abbrev new : TreeView
  new = view_of heads' bases' records' root next None

  page_new : slot_at new.slots p ≡ plain page
  page_new =
      slot_of_head bases' records' heads' p 0 (omega (arith, within, length-set heads p base))
      ∙ ap (slot_of_word bases' records') (get_or-set_same heads p base 0 within)
      ∙ put_there heads bases records' t'.ends t'.own p word at_p page

  others_new : (q : ℕ) → (q ≡ p → ⊥) → slot_at new.slots q ≡ slot_at old.slots q
  others_new q other = by (cases_lt q (length heads))
    where
      by : (q < length heads) ⊎ (length heads ≤ q) → slot_at new.slots q ≡ slot_at old.slots q
      by (inl lt) =
          slot_of_head bases' records' heads' q 0 (omega (arith, lt, length-set heads p base))
          ∙ ap (slot_of_word bases' records') (get_or-set_other heads p q base 0 other)
          ∙ others_kept heads bases records' t'.ends t'.own p word at_p page q (slice_index heads q) (slice_get-get_or heads q 0 lt) other
          ∙ sym (slot_of_head bases records' heads q 0 lt)
          ∙ ap (λ (l : List Slot). slot_at l q) longer.0
      by (inr ge) =
          slot_past (slot_of_word bases' records') heads' q (omega (arith, ge, length-set heads p base))
          ∙ sym (slot_past (slot_of_word bases records) heads q ge)

  given : HasChildren old.slots new.slots p es
  given = record { was = was; is = is; now = page_new ∙ made; others = others_new }

  size : length new.slots ≡ length old.slots
  size = length-map heads' (slot_of_word bases' records') ∙ length-set heads p base ∙ sym (length-map heads (slot_of_word bases records))

  kept : KeepsAll old.slots new.slots root old.levels old.levels
  kept = children_kept es old.slots new.slots root old.levels p t.lawful fit given size

  base_low : base < 2 ^ 32
  base_low = low heads bases records' t'.ends t'.own p word at_p page

  standing : IsStanding heads' bases' records' root next
  standing = standing_kept heads bases records root next t heads' bases' records' root old.levels kept
      (all_end heads bases records' t'.ends t'.own p word at_p page)
      (own_after heads bases records' t'.ends t'.own p word at_p page)
      few
      (omega (arith, t.few_pages, length-set heads p base))
      (omega (arith, t.few_bases, length-set bases base (Some page)))
      (placed_set heads old.levels p base within (λ high. absurd (omega (arith, high, base_low))) t.placed)

  placed : slice_index heads' p ≡ base
  placed = get_or-set_same heads p base 0 within

  named_all : AreNamed old new p es
  named_all = record {
    named = given;
    levels = same_levels heads bases records root next t heads' bases' records' root old.levels kept;
    contents = contents_same heads bases records root next t heads' bases' records' root old.levels kept;
    heads = ap (set heads p) (sym placed);
    plain = subst (λ n. n < 2 ^ 32) (sym placed) base_low;
    root = refl;
    records = length-append records more ∙ ap (λ n. length records + n) count;
    next = refl;
    staged = refl;
  }

-- the chain of a page ends at the base page of its number over records behind the others, too
pub own_behind : (heads : List ℕ) (bases : Bases) (records more : Records) → OwnBases heads bases records → AllEnd bases records heads → (p : ℕ) → p < length heads → p ≡ base_under (records ++ more) (slice_index heads p)
own_behind heads bases records more own ends p there =
    let word = slice_index heads p in
    own_number heads bases records own p there
    ∙ sym (still_rests bases records (records ++ more) word (append_extends records more) (omega (arith, length-append records more)) (ends p word (slice_get-get_or heads p 0 there)))

-- so does a tree that was given the page in the place of the base page
pub all_named_on : (heads : List ℕ) (bases : Bases) (records more : Records) (root next : ℕ) (staged : Option StageWords) (tree : TreeView) (p : ℕ) (es : List (KeyBytes × ℕ)) (page : Page) → length more ≡ length es → length (records ++ more) ≤ 2 ^ 32 → IsTree heads bases records root next staged → view_of heads bases records root next staged ≡ tree → tree.staged ≡ None → IsInnerPage tree p → MayHaveChildren tree p es → ((was : PageState) → slot_at tree.slots p ≡ Live was → plain page ≡ Live (state_with_children es was)) →
    (heads' : List ℕ) (bases' : Bases) (records' : Records) (base : ℕ) → base ≡ base_under (records ++ more) (slice_index heads p) → heads' ≡ set heads p base → bases' ≡ set bases base (Some page) → records' ≡ records ++ more →
    IsTree heads' bases' records' root next staged × AreNamed tree (view_of heads' bases' records' root next staged) p es
all_named_on heads bases records more root next None tree p es page count few t is none inner fit made heads' bases' records' base based placed put same =
    let lawful : AreLevels tree.slots root tree.levels = subst (λ (v : TreeView). AreLevels v.slots root v.levels) is t.now.lawful in
    let on = inner.in_levels in
    let st = (in_row tree.slots on.level _ (row tree.levels on.level) on.in_level.0 p (lawful.rows on.level on.within) on.in_level.1 on.in_level.2).stands in
    let here : p < length heads = page_there heads bases records root next next None tree p is t.now on in
    let fit_here : MayHaveChildren (view_of heads bases records root next None) p es = subst (λ (v : TreeView). MayHaveChildren v p es) (sym is) fit in
    let was_here : slot_at (slots_of heads bases records) p ≡ Live st.state = ap (λ (v : TreeView). slot_at v.slots p) is ∙ st.is in
    put_on IsMade heads bases (records ++ more) p under page (
      record { now = standing heads bases records more root next t.now few p here es count fit_here st.state was_here page (made st.state st.is); stage = tt },
      subst (λ (v : TreeView). AreNamed v (view_of (set heads p under) (set bases under (Some page)) (records ++ more) root next None) p es) is
          (named_all heads bases records more root next t.now few p here es count fit_here st.state was_here page (made st.state st.is)),
    )
    heads' bases' records' base based placed put same
  where
    under : ℕ
    under = base_under (records ++ more) (slice_index heads p)

    IsMade : List ℕ → Bases → Records → Type 0
    IsMade h b r = IsTree h b r root next None × AreNamed tree (view_of h b r root next None) p es
all_named_on heads bases records more root next (Some stage) tree p es page count few t is none inner fit made heads' bases' records' base based placed put same = absurd (unstaged (ap (λ (v : TreeView). v.staged) is ∙ none))
  where
    unstaged : {s : StageView} → Some s ≡ None → ⊥
    unstaged e = cc
