-- The tree over leaves is lawful.
use Rattle.std.specs.Prelude.{slice_get, slice_index}
use Rattle.bw_level.specs.Changes.{based, Bases}
use Rattle.bw_chain.specs.Chains.{floor_word, slot_of_word, link_of, linked_word, AllEnd}
use Rattle.bw_page.specs.declared.pages.Page.{Page}
use Rattle.std.proofs.Common.{inl, inr, ◌⊎◌, ◌≡◌, ℕ, zero, suc, ◌+◌, ◌-◌, ◌<◌, ◌≤◌, ◌^◌, true, false, cond, not, T, List, [], ◌∷◌, ◌++◌, length, map, Option, Some, None, Result, Ok, Err, IfOk, refl, sym, ap, ◌∙◌, subst, arith, nat_lt, length-append}
use Rattle.std.specs.List.{Contains, AllByRecursion, IsDistinct}
use Rattle.std.specs.FinMap.{from_entries}
use Rattle.std.proofs.lemmas.Bool.{cases_lt}
use Rattle.std.proofs.lemmas.List.{length-map}
use Rattle.std.proofs.lemmas.Option.{slice_get-get_or}
use Rattle.bw_key.specs.Order.{KeyBytes, key_cmp}
use Rattle.bw_model.specs.Contents.{Contents}
use Rattle.bw_model.specs.Values.{ValueBytes}
use Rattle.bw_page.specs.Leaves.{LeafView}
use Rattle.bw_page.specs.Inners.{InnerView, IsUpto}
use Rattle.bw_page.specs.declared.pages.RemovedPage.{RemovedPage}
use Rattle.bw_page.specs.declared.pages.Page.TheVariants.{Inner as InnerPage}
use Rattle.bw_page.proofs.KeyLemmas.{below_self}
use Rattle.bw_delta.specs.Writes.{WriteView}
use Rattle.bw_delta.specs.History.{HasDistinctStamps}
use Rattle.bw_delta.specs.ContentsAsOf.{contents_as_of}
use Rattle.bw_level.specs.Slots.{Slot, PageState, Children, Free, Gone, Live, slot_at, left_of_slot, children_of}
use Rattle.bw_level.specs.Levels.{AreLevels, SideBySide, Stands, StartsWith, LeadsBelow, BeginsWith, FirstChild, row}
use Rattle.bw_level.specs.Entries.{AreExact}
use Rattle.bw_level.specs.Searches.{AllStand, IsInLevels}
use Rattle.bw_level.specs.KeptLevels.{IsTerm}
use Rattle.bw_tree.specs.Making.{AreAbutting, IsOverLeaves, base_of_leaf, count_from, leaf_slot, pages_over, pairs_in, terms_from, tree_over}
use Rattle.bw_look.specs.PageStates.{HasRules}
use Rattle.bw_look.specs.View.{TreeView, contents_at}
use Rattle.bw_level.specs.Reading.{row_pairs, row_writes}
use Rattle.bw_chain.specs.Supports.{OwnBases, base_under}
use Rattle.bw_level.specs.Walk.{ended}
use Rattle.bw_look.specs.Trees.{IsTree}
use Rattle.bw_level.proofs.LevelLemmas.{levels_now}
use Rattle.bw_level.proofs.RouteLemmas.{held}
use Rattle.bw_tree.proofs.MakingLemmas.{StandAt, over_slots, slot_based, from_none, there_is, counted_word, counted_length, counted_has, slot_there, leaf_there, root_there, leaf_state, leaf_row, leaf_pairs, leaf_writes, term_named, root_rules}

one_state : {s t : PageState} → Live s ≡ Live t → s ≡ t
one_state e = cc

not_free : {s : PageState} → Free ≡ Live s → ⊥
not_free e = cc

not_gone : {s : PageState} {g : RemovedPage} → Live s ≡ Gone g → ⊥
not_gone e = cc

no_link : (w : ℕ) → link_of [] w ≡ None
no_link w = elim (nat_lt w floor_word) as (λ b. linked_word (cond b None None) ≡ None) [ true ↦ refl | false ↦ refl ]

over_ends : (bases : Bases) → length bases ≤ 2 ^ 32 → AllEnd bases [] (count_from 0 (length bases))
over_ends bases few p word e =
    let at = counted_word 0 (length bases) p word e in
    let there : word < length bases = omega (arith, at.0, at.1) in
    ([], (word, record { way = (refl, no_link word); short = omega arith; within = there; limit = omega (arith, there, few); shaped = tt }))

-- without records a page rests on the base page that its word names
rests_alone : (word : ℕ) → base_under [] word ≡ word
unfolding ended
rests_alone word = refl

over_own : (bases : Bases) → OwnBases (count_from 0 (length bases)) bases []
over_own bases = record {
  count = counted_length 0 (length bases);
  number = λ p word at. omega (arith, (counted_word 0 (length bases) p word at).0, rests_alone word);
}

none_distinct : HasDistinctStamps []
unfolding IsDistinct
none_distinct = tt

over_tree : (bases : Bases) (levels : List (List ℕ)) → AreLevels (over_slots bases) (length bases - 1) levels → AreExact (over_slots bases) levels → AllStand (over_slots bases) levels → row_writes (over_slots bases) (row levels 0) ≡ [] → length bases ≤ 2 ^ 32 → IsTree (count_from 0 (length bases)) bases [] (length bases - 1) 0 None
over_tree bases levels lawful exact stand none few =
    let now = levels_now (over_slots bases) (length bases - 1) levels lawful in
    record {
      stage = tt;
      now = record {
        ends = over_ends bases few;
        own = over_own bases;
        lawful = subst (AreLevels (over_slots bases) (length bases - 1)) (sym now) lawful;
        exact = subst (AreExact (over_slots bases)) (sym now) exact;
        stand = subst (AllStand (over_slots bases)) (sym now) stand;
        distinct = subst (λ (l : List (List ℕ)). HasDistinctStamps (row_writes (over_slots bases) (row l 0))) (sym now) (subst HasDistinctStamps (sym none) none_distinct);
        placed = λ p lt high.
            let at = counted_word 0 (length bases) p (slice_index (count_from 0 (length bases)) p) (slice_get-get_or (count_from 0 (length bases)) p 0 lt) in
            absurd (omega (arith, high, few, at.0, at.1));
        few_records = omega arith;
        few_pages = omega (arith, few, counted_length 0 (length bases));
        few_bases = few;
        past = subst (λ (l : List (List ℕ)). AllByRecursion (λ (w : WriteView). w.stamp < 0) (row_writes (over_slots bases) (row l 0))) (sym now) (subst (AllByRecursion (λ (w : WriteView). w.stamp < 0)) (sym none) tt);
        fits = omega arith;
      };
    }

-- each page has a base page
page_within : (bases : Bases) (p : ℕ) (s : PageState) → slot_at (over_slots bases) p ≡ Live s → p < length bases
page_within bases p s is =
    let there = held (over_slots bases) p (λ free. not_free (sym free ∙ is)) in
    omega (arith, there, length-map (count_from 0 (length bases)) (slot_of_word bases []), counted_length 0 (length bases))

-- without writes the map is the same as of every stamp
pub unwritten : (start : Contents ValueBytes) (as_of : ℕ) → contents_as_of start [] as_of ≡ start
unfolding contents_as_of
unwritten start zero = refl
unwritten start (suc as_of) = unwritten start as_of

over_contents : (bases : Bases) (levels : List (List ℕ)) (leaves : List (LeafView ValueBytes)) → AreLevels (over_slots bases) (length bases - 1) levels → row levels 0 ≡ count_from 0 (length leaves) → StandAt (over_slots bases) 0 leaves → (as_of : ℕ) → contents_at (tree_over bases) as_of ≡ from_entries (pairs_in leaves)
over_contents bases levels leaves lawful at stand as_of =
    let slots = over_slots bases in
    let now = levels_now slots (length bases - 1) levels lawful in
    ap (λ (l : List (List ℕ)). contents_as_of (from_entries {R = key_cmp} (row_pairs slots (row l 0))) (row_writes slots (row l 0)) as_of) now
    ∙ ap (λ (ps : List ℕ). contents_as_of (from_entries {R = key_cmp} (row_pairs slots ps)) (row_writes slots ps) as_of) at
    ∙ ap (λ (ws : List WriteView). contents_as_of (from_entries {R = key_cmp} (row_pairs slots (count_from 0 (length leaves)))) ws as_of) (leaf_writes slots 0 leaves stand)
    ∙ unwritten (from_entries (row_pairs slots (count_from 0 (length leaves)))) as_of
    ∙ ap (from_entries {R = key_cmp}) (leaf_pairs slots 0 leaves stand)

all_based : (bases rest : Bases) (n : ℕ) → ((i : ℕ) (o : Option Page) → slice_get rest i ≡ Some o → slice_get bases (n + i) ≡ Some o) → map (slot_of_word bases []) (count_from n (length rest)) ≡ map (λ o. based (Some o)) rest
all_based bases [] n at = refl
all_based bases (o ∷ rest) n at =
    ap (λ (s : Slot). s ∷ map (slot_of_word bases []) (count_from (n + 1) (length rest))) (slot_based bases n ∙ ap based (ap (slice_get bases) (plus_none n) ∙ at 0 o refl))
    ∙ ap (λ (l : List Slot). based (Some o) ∷ l) (all_based bases rest (n + 1) (λ i k e. ap (slice_get bases) (shifted n i) ∙ at (suc i) k e))
  where
    plus_none : (n : ℕ) → n ≡ n + 0
    plus_none n = omega arith

    shifted : (n i : ℕ) → n + 1 + i ≡ n + suc i
    shifted n i = omega arith

leaf_slots : (leaves : List (LeafView ValueBytes)) (more : Bases) → map (λ o. based (Some o)) (map base_of_leaf leaves ++ more) ≡ map leaf_slot leaves ++ map (λ o. based (Some o)) more
leaf_slots [] more = refl
leaf_slots (l ∷ leaves) more = ap (λ (s : List Slot). leaf_slot l ∷ s) (leaf_slots leaves more)

slots_are : (leaves : List (LeafView ValueBytes)) (more : Bases) → over_slots (map base_of_leaf leaves ++ more) ≡ map leaf_slot leaves ++ map (λ o. based (Some o)) more
slots_are leaves more =
    let bases = map base_of_leaf leaves ++ more in
    all_based bases bases 0 (λ i o e. ap (slice_get bases) (from_none i) ∙ e) ∙ leaf_slots leaves more

-- what a tree is over: it is lawful, and is the one that was asked for
pub record StandsOver (bases : Bases) (given : List (LeafView ValueBytes)) : Type 0 where
  pub tree : IsTree (count_from 0 (length bases)) bases [] (length bases - 1) 0 None
  pub over : IsOverLeaves (tree_over bases) given

stand_over : (leaves : List (LeafView ValueBytes)) (more : Bases) → StandAt (over_slots (map base_of_leaf leaves ++ more)) 0 leaves
stand_over leaves more i l e =
    let bases = map base_of_leaf leaves ++ more in
    ap (slot_at (over_slots bases)) (from_none i) ∙ slot_there bases i (base_of_leaf l) (leaf_there leaves more i l e)

alone_over : (l : LeafView ValueBytes) → AreAbutting 0 [] (l ∷ []) → AllByRecursion HasRules (l ∷ []) → StandsOver (map base_of_leaf (l ∷ [])) (l ∷ [])
alone_over l abut rules =
    let bases = map base_of_leaf (l ∷ []) in
    let slots = over_slots bases in
    let stand : StandAt slots 0 (l ∷ []) = stand_over (l ∷ []) [] in
    let levels : List (List ℕ) = (0 ∷ []) ∷ [] in
    let lawful : AreLevels slots 0 levels = record {
      some = omega arith;
      top = refl;
      rows = rows slots (leaf_row slots 0 [] (l ∷ []) stand abut rules);
      firsts = λ n p c within. absurd (omega (arith, within));
      terms = λ n p s k c within. absurd (omega (arith, within));
    } in
    record {
      tree = over_tree bases levels lawful one_level all_stand (leaf_writes slots 0 (l ∷ []) stand) (omega arith);
      over = record {
        slots = slots_are (l ∷ []) [];
        contents = over_contents bases levels (l ∷ []) lawful refl stand;
        leaves = ap (λ (ls : List (List ℕ)). row ls 0) (levels_now slots 0 levels lawful);
        root = refl;
        heads = refl;
        records = refl;
        next = refl;
        staged = refl;
      };
    }
  where
    one_level : {slots : List Slot} → AreExact slots ((0 ∷ []) ∷ [])
    one_level = record { begins = λ n k c s within. absurd (omega (arith, within)); began = λ n k c g within. absurd (omega (arith, within)); behind = λ n k c g within. absurd (omega (arith, within)); once = λ n k h c within. absurd (omega (arith, within)) }

    all_stand : AllStand (over_slots (map base_of_leaf (l ∷ []))) ((0 ∷ []) ∷ [])
    all_stand p s is =
        let within = page_within (map base_of_leaf (l ∷ [])) p s is in
        record { level = 0; within = omega arith; in_level = (0, omega arith, omega (arith, within)) }

    rows : (slots : List Slot) → SideBySide slots 0 [] (0 ∷ []) → (n : ℕ) → n < 1 → SideBySide slots n [] (row ((0 ∷ []) ∷ []) n)
    rows slots h zero within = h
    rows slots h (suc n) within = absurd (omega arith)

pub one_over : (bases : Bases) (leaves : List (LeafView ValueBytes)) → AreAbutting 0 [] leaves → AllByRecursion HasRules leaves → bases ≡ map base_of_leaf leaves → length bases ≤ 1 → StandsOver bases leaves
one_over bases [] abut rules is few = absurd abut
one_over bases (l ∷ []) abut rules is few = subst (λ (b : Bases). StandsOver b (l ∷ [])) (sym is) (alone_over l abut rules)
one_over bases (l ∷ k ∷ leaves) abut rules is few = absurd (omega (arith, few, ap length is, length-map (l ∷ k ∷ leaves) base_of_leaf))

abbrev root_of : List (LeafView ValueBytes) → InnerView
root_of leaves = record { level = 1; low = []; high = None; side = None; children = terms_from 0 leaves }

abbrev root_state : List (LeafView ValueBytes) → PageState
root_state leaves = record { low = []; high = None; side = None; body = Children 1 (terms_from 0 leaves) }

module _ (l k : LeafView ValueBytes) (rest : List (LeafView ValueBytes)) (abut : AreAbutting 0 [] (l ∷ k ∷ rest)) (rules : AllByRecursion HasRules (l ∷ k ∷ rest)) where
  abbrev given : List (LeafView ValueBytes)
  given = l ∷ k ∷ rest

  abbrev rooted : Bases
  rooted = map base_of_leaf given ++ Some (InnerPage (root_of given)) ∷ []

  abbrev rooted_slots : List Slot
  rooted_slots = over_slots rooted

  abbrev two_levels : List (List ℕ)
  two_levels = count_from 0 (length given) ∷ (length given ∷ []) ∷ []

  rooted_length : length rooted ≡ length given + 1
  rooted_length = length-append (map base_of_leaf given) (Some (InnerPage (root_of given)) ∷ []) ∙ ap (λ n. n + 1) (length-map given base_of_leaf)

  root_at : slot_at rooted_slots (length given) ≡ Live (root_state given)
  root_at = slot_there rooted (length given) (Some (InnerPage (root_of given))) (root_there given (InnerPage (root_of given)))

  stand : StandAt rooted_slots 0 given
  stand = stand_over given (Some (InnerPage (root_of given)) ∷ [])

  root_stands : Stands rooted_slots 1 [] None None (length given)
  root_stands = record { state = root_state given; is = root_at; sound = root_rules given abut rules; at_level = refl; from_low = refl; to_high = refl; linked = refl }

  rows : (n : ℕ) → n < 2 → SideBySide rooted_slots n [] (row two_levels n)
  rows zero within = leaf_row rooted_slots 0 [] given stand abut rules
  rows (suc zero) within = root_stands
  rows (suc (suc n)) within = absurd (omega arith)

  is_root : (p : ℕ) → Contains (length given ∷ []) p → length given ≡ p
  is_root p (zero, lt, at) = at
  is_root p (suc n, lt, at) = absurd (omega (arith, lt))

  root_is : (p : ℕ) (s : PageState) → length given ≡ p → slot_at rooted_slots p ≡ Live s → root_state given ≡ s
  root_is p s at is = one_state (sym root_at ∙ ap (slot_at rooted_slots) at ∙ is)

  firsts : (n p c : ℕ) → suc n < 2 → BeginsWith (row two_levels (suc n)) p → FirstChild rooted_slots p c → BeginsWith (row two_levels n) c
  firsts zero p c within begins first =
      let same = root_is p first.0 begins first.1 in
      let starts : StartsWith (terms_from 0 given) first.2.0 c = subst (λ (s : PageState). StartsWith (children_of s.body) first.2.0 c) (sym same) first.2.1 in
      ap (λ (e : KeyBytes × ℕ). e.1) starts
  firsts (suc n) p c within begins first = absurd (omega arith)

  upto_self : (key : KeyBytes) → IsUpto key key
  upto_self key = subst (λ b. T (not b)) (sym (below_self key)) tt

  terms : (n p : ℕ) (s : PageState) (key : KeyBytes) (c : ℕ) → suc n < 2 → Contains (row two_levels (suc n)) p → slot_at rooted_slots p ≡ Live s → Contains (children_of s.body) (key, c) → LeadsBelow rooted_slots (row two_levels n) key c
  terms zero p s key c within has is named =
      let same = root_is p s (is_root p has) is in
      let term = term_named 0 given key c (subst (λ (t : PageState). Contains (children_of t.body) (key, c)) (sym same) named) in
      let leaf : LeafView ValueBytes = term.1 in
      let at : slot_at rooted_slots c ≡ Live (leaf_state leaf) = ap (slot_at rooted_slots) (sym term.4) ∙ stand term.0 leaf term.2 in
      record {
        removed = [];
        page = c;
        way = (refl, ap left_of_slot at);
        in_level = subst (Contains (count_from 0 (length given))) term.4 (counted_has 0 (length given) term.0 (there_is given term.0 leaf term.2));
        state = leaf_state leaf;
        is = at;
        from_low = subst (λ (q : KeyBytes). IsUpto leaf.low q) term.3 (upto_self leaf.low);
      }
  terms (suc n) p s key c within has is named = absurd (omega arith)

  -- the leaf that a child of the root is, which begins at its separator
  child_at : (n : ℕ) (key : KeyBytes) (c : ℕ) → suc n < 2 → IsTerm rooted_slots two_levels n key c → (leaf : LeafView ValueBytes) × (slot_at rooted_slots c ≡ Live (leaf_state leaf)) × (leaf.low ≡ key)
  child_at zero key c within term =
      let same = root_is term.page term.state (is_root term.page term.in_level) term.is in
      let at = term_named 0 given key c (subst (λ (t : PageState). Contains (children_of t.body) (key, c)) (sym same) term.named) in
      (at.1, ap (slot_at rooted_slots) (sym at.4) ∙ stand at.0 at.1 at.2, at.3)
  child_at (suc n) key c within term = absurd (omega arith)

  exact : AreExact rooted_slots two_levels
  exact = record {
    begins = λ n key c s within term is.
        let at = child_at n key c within term in
        ap (λ (t : PageState). t.low) (one_state (sym is ∙ at.1)) ∙ at.2;
    began = λ n key c g within term is. absurd (not_gone (sym (child_at n key c within term).1 ∙ is));
    behind = λ n key c g within term is. absurd (not_gone (sym (child_at n key c within term).1 ∙ is));
    once = λ n key other c within one more.
        let a = child_at n key c within one in
        let b = child_at n other c within more in
        sym a.2 ∙ ap (λ (t : PageState). t.low) (one_state (sym a.1 ∙ b.1)) ∙ b.2;
  }

  -- a page is one of the leaves, or the root
  all_stand : AllStand rooted_slots two_levels
  all_stand p s is = by (cases_lt p (length given))
    where
      by : (p < length given) ⊎ (length given ≤ p) → IsInLevels two_levels p
      by (inl lt) = record { level = 0; within = omega arith; in_level = subst (Contains (row two_levels 0)) (from_none p) (counted_has 0 (length given) p lt) }
      by (inr ge) =
          let within = page_within rooted p s is in
          record { level = 1; within = omega arith; in_level = (0, omega arith, omega (arith, ge, within, rooted_length)) }

  rooted_lawful : AreLevels rooted_slots (length rooted - 1) two_levels
  rooted_lawful = record { some = omega arith; top = omega (arith, rooted_length); rows = rows; firsts = firsts; terms = terms }

  counted : length rooted ≡ length given + 1 → length rooted ≡ pages_over given
  counted e = omega (arith, e)

  rooted_over : length rooted ≤ 2 ^ 32 → StandsOver rooted given
  rooted_over few = record {
    tree = over_tree rooted two_levels rooted_lawful exact all_stand (leaf_writes rooted_slots 0 given stand) few;
    over = record {
      slots = slots_are given (Some (InnerPage (root_of given)) ∷ []);
      contents = over_contents rooted two_levels given rooted_lawful refl stand;
      leaves = ap (λ (ls : List (List ℕ)). row ls 0) (levels_now rooted_slots (length rooted - 1) two_levels rooted_lawful);
      root = omega (arith, rooted_length);
      heads = ap (count_from 0) (counted rooted_length);
      records = refl;
      next = refl;
      staged = refl;
    };
  }

inner_is : (r : InnerView) (leaves : List (LeafView ValueBytes)) → r.level ≡ 1 → r.low ≡ [] → r.high ≡ None → r.side ≡ None → r.children ≡ terms_from 0 leaves → r ≡ root_of leaves
inner_is r leaves level low high side children =
    ap (λ n. record r { level = n }) level
    ∙ ap (λ (q : KeyBytes). record { level = 1; low = q; high = r.high; side = r.side; children = r.children }) low
    ∙ ap (λ (o : Option KeyBytes). record { level = 1; low = []; high = o; side = r.side; children = r.children }) high
    ∙ ap (λ (o : Option ℕ). record { level = 1; low = []; high = None; side = o; children = r.children }) side
    ∙ ap (λ (cs : List (KeyBytes × ℕ)). record { level = 1; low = []; high = None; side = None; children = cs }) children

pub more_over : (old bases : Bases) (leaves : List (LeafView ValueBytes)) (r : InnerView) → AreAbutting 0 [] leaves → AllByRecursion HasRules leaves → old ≡ map base_of_leaf leaves → 1 < length old → length leaves < 2 ^ 32 →
    r.level ≡ 1 → r.low ≡ [] → r.high ≡ None → r.side ≡ None → r.children ≡ terms_from 0 leaves → bases ≡ old ++ Some (InnerPage r) ∷ [] → StandsOver bases leaves
more_over old bases [] r abut rules is more few level low high side children pushed = absurd abut
more_over old bases (l ∷ []) r abut rules is more few level low high side children pushed = absurd (omega (arith, more, ap length is, length-map (l ∷ []) base_of_leaf))
more_over old bases (l ∷ k ∷ rest) r abut rules is more few level low high side children pushed =
    let all : bases ≡ rooted l k rest abut rules = pushed ∙ ap (λ (b : Bases). b ++ Some (InnerPage r) ∷ []) is ∙ ap (λ q. map base_of_leaf (l ∷ k ∷ rest) ++ Some (InnerPage q) ∷ []) (inner_is r (l ∷ k ∷ rest) level low high side children) in
    subst (λ (b : Bases). StandsOver b (l ∷ k ∷ rest)) (sym all) (rooted_over l k rest abut rules (omega (arith, few, rooted_length l k rest abut rules)))

-- so, where a call answers that tree
pub over_ok : {E : Type 0} (r : Result TreeView E) (bases : Bases) (leaves : List (LeafView ValueBytes)) → StandsOver bases leaves → IfOk r (λ tree. tree ≡ tree_over bases) → IfOk r (λ tree. IsOverLeaves tree leaves)
over_ok (Ok tree) bases leaves so h = subst (λ (t : TreeView). IsOverLeaves t leaves) (sym h) so.over
over_ok (Err e) bases leaves so h = h
