-- A root that grows leaves a lawful tree that holds the same.
use Rattle.std.proofs.Common.{inl, inr, ◌⊎◌, ◌≡◌, ℕ, zero, suc, ◌+◌, ◌-◌, ◌<◌, true, not, ◌&&◌, T, List, [], ◌∷◌, ◌++◌, length, flat_map, Option, Some, None, refl, sym, ap, ◌∙◌, subst, arith, length-append}
use Rattle.std.proofs.lemmas.Bool.{cases_eq}
use Rattle.std.specs.FinMap.{from_entries}
use Rattle.std.specs.List.{Contains}
use Rattle.std.specs.Ordering.{is_lt}
use Rattle.bw_key.specs.Order.{KeyBytes, key_cmp}
use Rattle.bw_model.specs.Values.{ValueBytes}
use Rattle.bw_page.specs.Inners.{IsInner, IsUpto}
use Rattle.bw_page.specs.declared.pages.RemovedPage.{RemovedPage}
use Rattle.bw_page.proofs.KeyLemmas.{below_back, below_self}
use Rattle.bw_page.proofs.Truths.{both_of, not_holds, true_holds}
use Rattle.bw_delta.specs.ContentsAsOf.{contents_as_of}
use Rattle.bw_delta.specs.Writes.{WriteView}
use Rattle.bw_level.specs.Entries.{AreExact}
use Rattle.bw_level.specs.Laws.{LevelsAreGrown}
use Rattle.bw_level.specs.Levels.{AreLevels, BeginsWith, FirstChild, LeadsBelow, SideBySide, Stands, StartsWith, row}
use Rattle.bw_level.specs.Reading.{contents_in, pairs_under, row_pairs, row_writes, writes_over}
use Rattle.bw_level.specs.Roots.{IsGrown, levels_grown, root_over, two_children}
use Rattle.bw_level.specs.Searches.{AllStand, IsInLevels}
use Rattle.bw_level.specs.Slots.{Slot, PageState, Free, Gone, Live, children_of, left_of, left_of_slot, level_of, slot_at}
use Rattle.bw_level.proofs.LeafRowLemmas.{low_below}
use Rattle.bw_level.proofs.RouteLemmas.{row_first}
use Rattle.bw_level.specs.KeptLevels.{IsTerm}
use Rattle.bw_level.proofs.RowLemmas.{first_stands, in_row, row_on}
use Rattle.bw_level.proofs.StepLemmas.{child_there}
use Rattle.bw_level.proofs.WalkLemmas.{way_on}

one_state : {s t : PageState} → Live s ≡ Live t → s ≡ t
one_state e = cc

not_free : {s : PageState} → Free ≡ Live s → ⊥
not_free e = cc

not_gone : {s : PageState} {g : RemovedPage} → Live s ≡ Gone g → ⊥
not_gone e = cc

no_key : {k : KeyBytes} → None ≡ Some k → ⊥
no_key e = cc

one_key : {h k : KeyBytes} → Some h ≡ Some k → h ≡ k
one_key e = cc

one_side : {p q : ℕ} → Some p ≡ Some q → p ≡ q
one_side e = cc

-- two children are those of a page
pub two_sound : (level left right : ℕ) (key : KeyBytes) → is_lt (key_cmp [] key) ≡ true → IsInner (suc level) [] None None (two_children left key right)
two_sound level left right key above = record {
  raised = omega arith;
  page = record {
    sorted = both_of _ _ (both_of _ _ (true_holds _ above) tt) tt;
    inside = subst (λ b. T ((not b && true) && true)) (sym (below_back [] key above)) tt;
    wide = tt;
    linked = refl;
  };
  begins = refl;
}

-- the first page of a level, and the one right of it
pub record BeginsRow (slots : List Slot) (level : ℕ) (ps : List ℕ) (root : ℕ) (high : KeyBytes) (side : ℕ) : Type 0 where
  pub here : Contains ps root
  pub beside : Contains ps side
  pub first : Stands slots level [] (Some high) (Some side) root
  pub second : (other : Option KeyBytes) × ((next : Option ℕ) × Stands slots level high other next side)

pub begins_row : (slots : List Slot) (level : ℕ) (ps : List ℕ) (root : ℕ) (s : PageState) (high : KeyBytes) (side : ℕ) → SideBySide slots level [] ps → BeginsWith ps root → slot_at slots root ≡ Live s → s.high ≡ Some high → s.side ≡ Some side → BeginsRow slots level ps root high side
begins_row slots level [] root s high side h begins is ends linked = absurd begins
begins_row slots level (x ∷ []) root s high side h begins is ends linked =
    absurd (no_key (sym h.to_high ∙ ap (λ (t : PageState). t.high) (one_state (sym h.is ∙ ap (slot_at slots) begins ∙ is)) ∙ ends))
begins_row slots level (x ∷ y ∷ ys) root s high side h begins is ends linked =
    let same : h.1.state ≡ s = one_state (sym h.1.is ∙ ap (slot_at slots) begins ∙ is) in
    let key : h.0 ≡ high = one_key (sym h.1.to_high ∙ ap (λ (t : PageState). t.high) same ∙ ends) in
    let next : y ≡ side = one_side (sym h.1.linked ∙ ap (λ (t : PageState). t.side) same ∙ linked) in
    record {
      here = (0, omega arith, begins);
      beside = (1, omega arith, next);
      first =
          subst (Stands slots level [] (Some high) (Some side)) begins
          (subst (λ q. Stands slots level [] (Some high) (Some q) x) next
          (subst (λ (k : KeyBytes). Stands slots level [] (Some k) (Some y) x) key h.1));
      second =
          subst (λ q. (other : Option KeyBytes) × ((next : Option ℕ) × Stands slots level high other next q)) next
          (subst (λ (k : KeyBytes). (other : Option KeyBytes) × ((next : Option ℕ) × Stands slots level k other next y)) key
          (first_stands slots level h.0 y ys h.2));
    }

-- rows with one more
pub row_before : (levels more : List (List ℕ)) (n : ℕ) → n < length levels → row (levels ++ more) n ≡ row levels n
row_before [] more n lt = absurd (omega arith)
row_before (ps ∷ levels) more zero lt = refl
row_before (ps ∷ levels) more (suc n) lt = row_before levels more n (omega arith)

row_last : (levels : List (List ℕ)) (ps : List ℕ) → row (levels ++ ps ∷ []) (length levels) ≡ ps
row_last [] ps = refl
row_last (qs ∷ levels) ps = row_last levels ps

only : (t p : ℕ) → Contains (t ∷ []) p → t ≡ p
only t p (zero, lt, is) = is
only t p (suc i, lt, is) = absurd (omega arith)

module _ (old new : List Slot) (root : ℕ) (levels : List (List ℕ)) (t : ℕ) (lawful : AreLevels old root levels) (grown : IsGrown old new root t) where
  abbrev was : PageState
  was = grown.was

  abbrev after : List (List ℕ)
  after = levels_grown levels t

  abbrev n : ℕ
  n = length levels - 1

  within : n < length levels
  within = omega (arith, lawful.some)

  more : length after ≡ length levels + 1
  more = length-append levels ((t ∷ []) ∷ [])

  begins : BeginsRow old n (row levels n) root grown.high grown.side
  begins = begins_row old n (row levels n) root was grown.high grown.side (lawful.rows n within) lawful.top grown.is grown.ends grown.linked

  above_least : is_lt (key_cmp [] grown.high) ≡ true
  above_least = low_below old n [] grown.high (Some grown.side) root begins.first

  abbrev top : PageState
  top = root_over (suc (level_of was.body)) root grown.high grown.side

  was_level : level_of was.body ≡ n
  was_level = ap (λ (s : PageState). level_of s.body) (one_state (sym grown.is ∙ begins.first.is)) ∙ begins.first.at_level

  top_stands : Stands new (length levels) [] None None t
  top_stands = record {
    state = top;
    is = grown.top;
    sound = two_sound (level_of was.body) root grown.side grown.high above_least;
    at_level = omega (arith, was_level, lawful.some);
    from_low = refl;
    to_high = refl;
    linked = refl;
  }

  -- what was there is not new
  not_new : (x : ℕ) (s : PageState) → slot_at old x ≡ Live s → x ≡ t → ⊥
  not_new x s is same = not_free (sym grown.free ∙ ap (slot_at old) (sym same) ∙ is)

  still_live : (x : ℕ) (s : PageState) → slot_at old x ≡ Live s → slot_at new x ≡ slot_at old x
  still_live x s is = grown.others x (not_new x s is)

  still : (m : ℕ) (low : KeyBytes) (high : Option KeyBytes) (side : Option ℕ) (x : ℕ) → Stands old m low high side x → Stands new m low high side x
  still m low high side x s =
      record { state = s.state; is = still_live x s.state s.is ∙ s.is; sound = s.sound; at_level = s.at_level; from_low = s.from_low; to_high = s.to_high; linked = s.linked }

  -- a row is one of before, or the new one
  which : (m : ℕ) → m < length after → (m < length levels) ⊎ (m ≡ length levels)
  which m lt = by (cases_eq m (length levels))
    where
      by : (m ≡ length levels) ⊎ (m ≡ length levels → ⊥) → (m < length levels) ⊎ (m ≡ length levels)
      by (inl same) = inr same
      by (inr other) = inl (below m (length levels) other (omega (arith, lt, more)))
        where
          below : (a b : ℕ) → (a ≡ b → ⊥) → a < b + 1 → a < b
          below zero zero other lt = absurd (other refl)
          below zero (suc b) other lt = omega arith
          below (suc a) zero other lt = absurd (omega arith)
          below (suc a) (suc b) other lt = let rest = below a b (λ e. other (ap suc e)) (omega arith) in omega (arith, rest)

  row_top : (m : ℕ) → m ≡ length levels → row after m ≡ t ∷ []
  row_top m last = ap (row after) last ∙ row_last levels (t ∷ [])

  row_same : (m : ℕ) → m < length levels → row after m ≡ row levels m
  row_same m lt = row_before levels ((t ∷ []) ∷ []) m lt

  rows_new : (m : ℕ) → m < length after → SideBySide new m [] (row after m)
  rows_new m lt = by (which m lt)
    where
      by : (m < length levels) ⊎ (m ≡ length levels) → SideBySide new m [] (row after m)
      by (inl low) = subst (SideBySide new m []) (sym (row_same m low)) (row_on old new m (still m) [] (row levels m) (lawful.rows m low))
      by (inr last) =
          subst (SideBySide new m []) (sym (row_top m last))
          (subst (λ l. Stands new l [] None None t) (sym last) top_stands)

  one_child : (k : KeyBytes) (c : ℕ) → ◌≡◌ {A = KeyBytes × ℕ} ([], root) (k, c) → root ≡ c
  one_child k c e = ap (λ (x : KeyBytes × ℕ). x.1) e

  firsts_new : (m p c : ℕ) → suc m < length after → BeginsWith (row after (suc m)) p → FirstChild new p c → BeginsWith (row after m) c
  firsts_new m p c lt first child = by (which (suc m) lt)
    where
      by : (suc m < length levels) ⊎ (suc m ≡ length levels) → BeginsWith (row after m) c
      by (inl low) =
          let begun : BeginsWith (row levels (suc m)) p = subst (λ (ps : List ℕ). BeginsWith ps p) (row_same (suc m) low) first in
          let st = (row_first old (suc m) [] (row levels (suc m)) p (lawful.rows (suc m) low) begun).1.1 in
          let before : FirstChild old p c = (child.0, sym (still_live p st.state st.is) ∙ child.1, child.2) in
          subst (λ (ps : List ℕ). BeginsWith ps c) (sym (row_same m (omega (arith, low)))) (lawful.firsts m p c low begun before)
      by (inr last) =
          let at : t ≡ p = subst (λ (ps : List ℕ). BeginsWith ps p) (row_top (suc m) last) first in
          let state : child.0 ≡ top = one_state (sym child.1 ∙ ap (slot_at new) (sym at) ∙ grown.top) in
          let is_root : root ≡ c = one_child child.2.0 c (subst (λ (s : PageState). StartsWith (children_of s.body) child.2.0 c) state child.2.1) in
          let low : n ≡ m = omega (arith, last) in
          subst (λ (ps : List ℕ). BeginsWith ps c) (sym (row_same m (omega (arith, last))))
          (subst (λ l. BeginsWith (row levels l) c) low (subst (BeginsWith (row levels n)) is_root lawful.top))

  left_same : (x : ℕ) → left_of new x ≡ left_of old x
  left_same x = by (cases_eq x t)
    where
      by : (x ≡ t) ⊎ (x ≡ t → ⊥) → left_of new x ≡ left_of old x
      by (inl added) = ap (left_of new) added ∙ ap left_of_slot grown.top ∙ sym (ap left_of_slot grown.free) ∙ ap (left_of old) (sym added)
      by (inr other) = ap left_of_slot (grown.others x other)

  -- what led below still does
  leads_still : (m : ℕ) (k : KeyBytes) (c : ℕ) → LeadsBelow old (row levels m) k c → LeadsBelow new (row levels m) k c
  leads_still m k c h = record {
    removed = h.removed;
    page = h.page;
    way = way_on (left_of old) (left_of new) left_same c h.removed h.page h.way;
    in_level = h.in_level;
    state = h.state;
    is = still_live h.page h.state h.is ∙ h.is;
    from_low = h.from_low;
  }

  -- a page of the level below the new root, as its child
  leads_there : (low : KeyBytes) (high : Option KeyBytes) (side : Option ℕ) (x : ℕ) → Contains (row levels n) x → Stands old n low high side x → LeadsBelow new (row levels n) low x
  leads_there low high side x has s =
      let now : slot_at new x ≡ Live s.state = still_live x s.state s.is ∙ s.is in
      record {
        removed = [];
        page = x;
        way = (refl, ap left_of_slot now);
        in_level = has;
        state = s.state;
        is = now;
        from_low = subst (λ (k : KeyBytes). IsUpto k low) (sym s.from_low) (not_holds _ (below_self low));
      }

  top_leads : (k : KeyBytes) (c : ℕ) → Contains (two_children root grown.high grown.side) (k, c) → LeadsBelow new (row levels n) k c
  top_leads k c (zero, lt, is) =
      subst (λ (e : KeyBytes × ℕ). LeadsBelow new (row levels n) e.0 e.1) is
      (leads_there [] (Some grown.high) (Some grown.side) root begins.here begins.first)
  top_leads k c (suc zero, lt, is) =
      subst (λ (e : KeyBytes × ℕ). LeadsBelow new (row levels n) e.0 e.1) is
      (leads_there grown.high begins.second.0 begins.second.1.0 grown.side begins.beside begins.second.1.1)
  top_leads k c (suc (suc i), lt, is) = absurd (omega arith)

  terms_new : (m p : ℕ) (s : PageState) (k : KeyBytes) (c : ℕ) → suc m < length after → Contains (row after (suc m)) p → slot_at new p ≡ Live s → Contains (children_of s.body) (k, c) → LeadsBelow new (row after m) k c
  terms_new m p s k c lt has is named = by (which (suc m) lt)
    where
      by : (suc m < length levels) ⊎ (suc m ≡ length levels) → LeadsBelow new (row after m) k c
      by (inl low) =
          let there : Contains (row levels (suc m)) p = subst (λ (ps : List ℕ). Contains ps p) (row_same (suc m) low) has in
          let st = (in_row old (suc m) [] (row levels (suc m)) there.0 p (lawful.rows (suc m) low) there.1 there.2).stands in
          let before : slot_at old p ≡ Live s = sym (still_live p st.state st.is) ∙ is in
          subst (λ (ps : List ℕ). LeadsBelow new ps k c) (sym (row_same m (omega (arith, low))))
          (leads_still m k c (lawful.terms m p s k c low there before named))
      by (inr last) =
          let at : t ≡ p = only t p (subst (λ (ps : List ℕ). Contains ps p) (row_top (suc m) last) has) in
          let state : s ≡ top = one_state (sym is ∙ ap (slot_at new) (sym at) ∙ grown.top) in
          let low : n ≡ m = omega (arith, last) in
          subst (λ (ps : List ℕ). LeadsBelow new ps k c) (sym (row_same m (omega (arith, last))))
          (subst (λ l. LeadsBelow new (row levels l) k c) low
          (top_leads k c (subst (λ (z : PageState). Contains (children_of z.body) (k, c)) state named)))

  lawful_new : AreLevels new t after
  lawful_new = record {
    some = omega (arith, more);
    top = subst (λ (ps : List ℕ). BeginsWith ps t) (sym (row_top (length after - 1) (omega (arith, more)))) refl;
    rows = rows_new;
    firsts = firsts_new;
    terms = terms_new;
  }

  -- a page that begins at a key
  abbrev BeginsAt : KeyBytes → ℕ → Type 0
  BeginsAt low x = (s : PageState) × (slot_at new x ≡ Live s) × (s.low ≡ low)

  begins_still : (low : KeyBytes) (high : Option KeyBytes) (side : Option ℕ) (x : ℕ) → Stands old n low high side x → BeginsAt low x
  begins_still low high side x st = (st.state, still_live x st.state st.is ∙ st.is, st.from_low)

  top_begins : (k : KeyBytes) (c : ℕ) → Contains (two_children root grown.high grown.side) (k, c) → BeginsAt k c
  top_begins k c (zero, lt, is) =
      subst (λ (e : KeyBytes × ℕ). BeginsAt e.0 e.1) is
      (begins_still [] (Some grown.high) (Some grown.side) root begins.first)
  top_begins k c (suc zero, lt, is) =
      subst (λ (e : KeyBytes × ℕ). BeginsAt e.0 e.1) is
      (begins_still grown.high begins.second.0 begins.second.1.0 grown.side begins.second.1.1)
  top_begins k c (suc (suc i), lt, is) = absurd (omega arith)

  -- an entry of a level that was there was one
  old_term : (m : ℕ) (k : KeyBytes) (c : ℕ) → IsTerm new after m k c → suc m < length levels → IsTerm old levels m k c
  old_term m k c term low =
      let there : Contains (row levels (suc m)) term.page = subst (λ (ps : List ℕ). Contains ps term.page) (row_same (suc m) low) term.in_level in
      let st = (in_row old (suc m) [] (row levels (suc m)) there.0 term.page (lawful.rows (suc m) low) there.1 there.2).stands in
      record { page = term.page; in_level = there; state = term.state; is = sym (still_live term.page st.state st.is) ∙ term.is; named = term.named }

  -- an entry was one, or is one of the new root's two
  term_was : (m : ℕ) (k : KeyBytes) (c : ℕ) → IsTerm new after m k c → (suc m < length levels) ⊎ (suc m ≡ length levels) → (suc m < length levels × IsTerm old levels m k c) ⊎ BeginsAt k c
  term_was m k c term (inl low) = inl (low, old_term m k c term low)
  term_was m k c term (inr last) =
      let at : t ≡ term.page = only t term.page (subst (λ (ps : List ℕ). Contains ps term.page) (row_top (suc m) last) term.in_level) in
      let state : term.state ≡ top = one_state (sym term.is ∙ ap (slot_at new) (sym at) ∙ grown.top) in
      inr (top_begins k c (subst (λ (z : PageState). Contains (children_of z.body) (k, c)) state term.named))

  exact_new : AreExact old levels → AreExact new after
  unfolding old_term
  exact_new exact = record {
    begins = λ m k c s lt term is. begins_there m k c s is (term_was m k c term (which (suc m) lt));
    began = λ m k c g lt term is. began_there m k c g is (term_was m k c term (which (suc m) lt));
    behind = λ m k c g lt term is. behind_there m k c g term is (which (suc m) lt);
    once = λ m k h c lt one other. same_key m k h c (term_was m k c one (which (suc m) lt)) (term_was m h c other (which (suc m) lt));
  }
    where
      low_is : (k : KeyBytes) (c : ℕ) (s : PageState) → slot_at new c ≡ Live s → BeginsAt k c → s.low ≡ k
      low_is k c s is b = ap (λ (z : PageState). z.low) (one_state (sym is ∙ b.1)) ∙ b.2

      begins_there : (m : ℕ) (k : KeyBytes) (c : ℕ) (s : PageState) → slot_at new c ≡ Live s → (suc m < length levels × IsTerm old levels m k c) ⊎ BeginsAt k c → s.low ≡ k
      begins_there m k c s is (inr b) = low_is k c s is b
      begins_there m k c s is (inl (low, had)) =
          exact.begins m k c s low had (sym (grown.others c (λ added. child_there old root levels lawful m k c low had (ap (slot_at old) added ∙ grown.free))) ∙ is)

      was_gone : (m : ℕ) (k : KeyBytes) (c : ℕ) (g : RemovedPage) → suc m < length levels → IsTerm old levels m k c → slot_at new c ≡ Gone g → slot_at old c ≡ Gone g
      was_gone m k c g low had is = sym (grown.others c (λ added. child_there old root levels lawful m k c low had (ap (slot_at old) added ∙ grown.free))) ∙ is

      began_there : (m : ℕ) (k : KeyBytes) (c : ℕ) (g : RemovedPage) → slot_at new c ≡ Gone g → (suc m < length levels × IsTerm old levels m k c) ⊎ BeginsAt k c → (g.low ≡ k) × (g.level ≡ m)
      began_there m k c g is (inr b) = absurd (not_gone (sym b.1 ∙ is))
      began_there m k c g is (inl (low, had)) = exact.began m k c g low had (was_gone m k c g low had is)

      -- an entry of the new root isn't one of a removed page
      behind_there : (m : ℕ) (k : KeyBytes) (c : ℕ) (g : RemovedPage) (term : IsTerm new after m k c) → slot_at new c ≡ Gone g → (suc m < length levels) ⊎ (suc m ≡ length levels) → is_lt (key_cmp term.state.low k) ≡ true
      behind_there m k c g term is (inl low) =
          let had : IsTerm old levels m k c = old_term m k c term low in
          exact.behind m k c g low had (was_gone m k c g low had is)
      behind_there m k c g term is (inr last) = by (term_was m k c term (inr last))
        where
          by : (suc m < length levels × IsTerm old levels m k c) ⊎ BeginsAt k c → is_lt (key_cmp term.state.low k) ≡ true
          by (inl had) = absurd (omega (arith, had.0, last))
          by (inr b) = absurd (not_gone (sym b.1 ∙ is))

      same_key : (m : ℕ) (k h : KeyBytes) (c : ℕ) → (suc m < length levels × IsTerm old levels m k c) ⊎ BeginsAt k c → (suc m < length levels × IsTerm old levels m h c) ⊎ BeginsAt h c → k ≡ h
      same_key m k h c (inl (low, one)) (inl (_, other)) = exact.once m k h c low one other
      same_key m k h c (inl one) (inr b) = sym (begins_there m k c b.0 b.1 (inl one)) ∙ b.2
      same_key m k h c (inr b) other = sym b.2 ∙ begins_there m h c b.0 b.1 other

  -- each page stands where it stood, and the new one on the new level
  stand_new : AllStand old levels → AllStand new after
  stand_new stand r s is = by (cases_eq r t)
    where
      by : (r ≡ t) ⊎ (r ≡ t → ⊥) → IsInLevels after r
      by (inl top) = record {
        level = length levels;
        within = omega (arith, more);
        in_level = subst (λ (ps : List ℕ). Contains ps r) (sym (row_top (length levels) refl)) (0, omega arith, sym top);
      }
      by (inr other) =
          let on = stand r s (sym (grown.others r other) ∙ is) in
          record {
            level = on.level;
            within = omega (arith, on.within, more);
            in_level = subst (λ (ps : List ℕ). Contains ps r) (sym (row_same on.level on.within)) on.in_level;
          }

  -- the leaves are the same, and have the same pairs and writes
  leaves_same : row after 0 ≡ row levels 0
  leaves_same = row_same 0 lawful.some

  same_in_row : {X : Type 0} (f : Slot → List X) (m : ℕ) (low : KeyBytes) (ps : List ℕ) → SideBySide old m low ps → flat_map (λ p. f (slot_at new p)) ps ≡ flat_map (λ p. f (slot_at old p)) ps
  same_in_row f m low [] h = refl
  same_in_row f m low (x ∷ []) h = ap (λ o. f o ++ []) (still_live x h.state h.is)
  same_in_row f m low (x ∷ y ∷ ys) h =
      ap (λ o. f o ++ flat_map (λ p. f (slot_at new p)) (y ∷ ys)) (still_live x h.1.state h.1.is)
      ∙ ap (λ l. f (slot_at old x) ++ l) (same_in_row f m h.0 (y ∷ ys) h.2)

  pairs_kept : row_pairs new (row after 0) ≡ row_pairs old (row levels 0)
  pairs_kept = ap (row_pairs new) leaves_same ∙ same_in_row pairs_under 0 [] (row levels 0) (lawful.rows 0 lawful.some)

  writes_kept : row_writes new (row after 0) ≡ row_writes old (row levels 0)
  writes_kept = ap (row_writes new) leaves_same ∙ same_in_row writes_over 0 [] (row levels 0) (lawful.rows 0 lawful.some)

  contents_new : (stamp : ℕ) → contents_in new after stamp ≡ contents_in old levels stamp
  contents_new stamp =
      ap (λ (es : List (KeyBytes × ValueBytes)). contents_as_of (from_entries es) (row_writes new (row after 0)) stamp) pairs_kept
      ∙ ap (λ (ws : List WriteView). contents_as_of (from_entries (row_pairs old (row levels 0))) ws stamp) writes_kept

pub levels_grow : LevelsAreGrown
levels_grow old new root levels t lawful grown = record {
  lawful = lawful_new old new root levels t lawful grown;
  exact = exact_new old new root levels t lawful grown;
  stand = stand_new old new root levels t lawful grown;
  writes = writes_kept old new root levels t lawful grown;
  contents = λ distinct stamp. contents_new old new root levels t lawful grown stamp;
}
