-- What is told of one page: its left neighbour, and which page names it.
use Rattle.std.proofs.Common.{◌≡◌, ℕ, zero, suc, ◌<◌, ◌≤◌, Bool, true, false, not, T, List, [], ◌∷◌, length, Option, Some, None, refl, sym, ap, ◌∙◌, subst, arith}
use Rattle.std.specs.Prelude.{Decides, MatchOption}
use Rattle.std.specs.Borrow.{Bor}
use Rattle.std.specs.List.{Contains, list_all}
use Rattle.std.specs.Ordering.{is_lt}
use Rattle.bw_key.specs.Order.{KeyBytes, key_cmp}
use Rattle.bw_model.specs.Contents.{is_below_end, is_in_range, is_pair_in_range}
use Rattle.bw_page.specs.Inners.{IsUpto}
use Rattle.bw_page.proofs.KeyLemmas.{below_back, below_self, neither_below, upto_below, upto_trans}
use Rattle.bw_page.proofs.Truths.{holds, holds_not, left_of, not_holds, right_of, true_holds}
use Rattle.bw_level.specs.Before.{low_at, low_of}
use Rattle.bw_level.specs.Children.{HasChildAt}
use Rattle.bw_level.specs.Entries.{AreExact}
use Rattle.bw_level.specs.Levels.{AreLevels, IsHomeAt, LeadsBelow, Stands, row}
use Rattle.bw_level.specs.Merges.{IsNoFirstChild}
use Rattle.bw_level.specs.Searches.{IsInLevels}
use Rattle.bw_level.specs.Slots.{Slot, PageState, Body, Pairs, Children, Free, Gone, Live, IsSoundBody, IsSoundPage, body_is_leaf, children_of, is_leaf, level_of, side_of, slot_at}
use Rattle.bw_level.specs.KeptLevels.{IsTerm}
use Rattle.bw_level.specs.Targets.{StandsFor, StandsOn, lies_from, lies_past}
use Rattle.bw_level.specs.Turns.{StartsUpto}
use Rattle.bw_level.specs.declared.target.Target.{Target}
use Rattle.bw_level.specs.declared.target.Target.TheVariants.{Home}
use Rattle.bw_level.proofs.AboveLemmas.{one_above, own_level, own_page}
use Rattle.bw_level.proofs.LeafRowLemmas.{low_below, wide_of}
use Rattle.bw_level.proofs.MarkLemmas.{key_stands, mark, mark_from, mark_stands}
use Rattle.bw_level.proofs.RouteLemmas.{least, live_way}
use Rattle.bw_level.proofs.RowLemmas.{InRow, in_row}
use Rattle.bw_level.proofs.StepLemmas.{child_there}
use Rattle.bw_look.specs.PageStates.{HasNoLeft, HasNoNamer, IsAbove, IsLeft, IsNamer}
use Rattle.bw_look.specs.Routing.{AreAtHomeOn, IsInLevel, IsInNoLevel}
use Rattle.bw_look.specs.View.{TreeView}
use Rattle.bw_look.proofs.ConsolidatedLeaves.{side_is}
use Rattle.bw_look.proofs.NeighbourLemmas.{left_beside}

one_state : {s t : PageState} → Live s ≡ Live t → s ≡ t
one_state e = cc

one_page : {p q : ℕ} → Some p ≡ Some q → p ≡ q
one_page e = cc

no_page : {p : ℕ} → None ≡ Some p → ⊥
no_page e = cc

different : true ≡ false → ⊥
different e = cc

-- the least key is the one without a byte
pub no_byte : (key : KeyBytes) → length key ≡ 0 → key ≡ []
no_byte [] none = refl
no_byte (x ∷ xs) none = absurd (omega (arith, none))

pub some_byte : (key : KeyBytes) → 0 < length key → T (is_below_end (Some key) [])
some_byte [] some = absurd (omega (arith, some))
some_byte (x ∷ xs) some = tt

-- where a search for a key ends on a level, the key is at home
pub home_on : (tree : TreeView) (key : Bor KeyBytes) (level : ℕ) (found : Option ℕ) → MatchOption found (length tree.levels ≤ level) (AreAtHomeOn tree (Home key) level) → MatchOption found (length tree.levels ≤ level) (IsHomeAt tree.slots tree.levels key.now level)
home_on tree key level None short = short
home_on tree key level (Some p) homes = homes key.now (key_stands tree.slots (Home key) key.now (λ k. refl))

module _ (tree : TreeView) (root : ℕ) (lawful : AreLevels tree.slots root tree.levels) where
  row_at : (n p : ℕ) (on : IsInLevel tree p n) → InRow tree.slots n (row tree.levels n) on.1.0 p
  row_at n p on = in_row tree.slots n [] (row tree.levels n) on.1.0 p (lawful.rows n on.0) on.1.1 on.1.2

  -- a page of a level begins at a key
  pub low_at_is : (p : ℕ) → IsInLevels tree.levels p → low_at (slot_at tree.slots p) ≡ Some (low_of (slot_at tree.slots p))
  low_at_is p on =
      let st = (row_at on.level p (on.within, on.in_level)).stands in
      ap low_at st.is ∙ ap Some (sym (ap low_of st.is))

  -- a page with its left neighbour: it begins where that one ends, on the same level
  record IsBeside (p q : ℕ) : Type 0 where
    level : ℕ
    in_level : IsInLevel tree p level
    start : KeyBytes
    low : KeyBytes
    left : Stands tree.slots level start (Some low) (Some p) q
    begins : low_of (slot_at tree.slots p) ≡ low

  beside : (p q : ℕ) → IsLeft tree p q → IsBeside p q
  beside p q left =
      let b = left_beside tree root lawful p q left in
      record {
        level = left.0.level;
        in_level = (left.0.within, b.in_row);
        start = b.low;
        low = b.key;
        left = b.left;
        begins = ap low_of b.right.is ∙ b.right.from_low;
      }

  -- a page of no level has no left neighbour, nor has the first of a level
  pub none_off : (p : ℕ) → IsInNoLevel tree p → HasNoLeft tree p
  none_off p none = λ q left. let b = beside p q left in none b.level b.in_level

  pub none_first : (p : ℕ) → low_of (slot_at tree.slots p) ≡ [] → HasNoLeft tree p
  none_first p first = λ q left.
      let b = beside p q left in
      let ends : b.low ≡ [] = sym b.begins ∙ first in
      let above : is_lt (key_cmp b.start []) ≡ true = ap (λ (k : KeyBytes). is_lt (key_cmp b.start k)) (sym ends) ∙ low_below tree.slots b.level b.start b.low (Some p) q b.left in
      different (sym above ∙ holds_not _ (least b.start))

  -- the page of the level before the key where a page begins is its left neighbour
  module _ (p n : ℕ) (on : IsInLevel tree p n) (target : Target) (before : (k : KeyBytes) → lies_from target k ≡ is_below_end (Some (low_of (slot_at tree.slots p))) k) (starts : T (lies_from target [])) (q : ℕ) (homes : AreAtHomeOn tree target n q) where
    abbrev low : KeyBytes
    low = low_of (slot_at tree.slots p)

    abbrev key : KeyBytes
    key = mark tree.slots target

    home : IsHomeAt tree.slots tree.levels key n q
    home = homes key (mark_stands tree.slots target starts)

    abbrev state : PageState
    state = home.reached.state

    low_there : low_at (slot_at tree.slots p) ≡ Some low
    low_there = low_at_is p (record { level = n; within = on.0; in_level = on.1 })

    below : is_lt (key_cmp key low) ≡ true
    below = sym (before key) ∙ mark_from tree.slots target starts

    from_low : is_lt (key_cmp low state.low) ≡ false
    from_low = upto_trans state.low key low (holds_not _ home.reached.from_low) (below_back key low below)

    -- whoever is at home at the low key is the page
    at_home : (x : ℕ) (s : PageState) → Contains (row tree.levels n) x → slot_at tree.slots x ≡ Live s → is_lt (key_cmp low s.low) ≡ false → is_below_end s.high low ≡ true → x ≡ p
    at_home x s has is upto ends =
        own_page tree.slots root tree.levels lawful p n on.0 on.1 low x low_there (record {
          reached = record { within = on.0; in_level = has; state = s; is = is; from_low = not_holds _ upto };
          ends_above = true_holds _ ends;
        })

    -- so the page before it ends there
    not_past : is_below_end state.high low ≡ false
    not_past = by (is_below_end state.high low) refl
      where
        by : (b : Bool) → is_below_end state.high low ≡ b → b ≡ false
        by false e = refl
        by true e =
            let one : q ≡ p = at_home q state home.reached.in_level home.reached.is from_low e in
            let same : state.low ≡ low = ap low_of (sym home.reached.is) ∙ ap (λ x. low_of (slot_at tree.slots x)) one in
            absurd (different (sym below ∙ ap (λ (k : KeyBytes). is_lt (key_cmp key k)) (sym same) ∙ holds_not _ home.reached.from_low))

    pub is_left : IsLeft tree p q
    is_left = (record { level = n; within = on.0; in_level = home.reached.in_level }, by at.high refl)
      where
        at : InRow tree.slots n (row tree.levels n) home.reached.in_level.0 q
        at = row_at n q (on.0, home.reached.in_level)

        same : at.stands.state ≡ state
        same = one_state (sym at.stands.is ∙ home.reached.is)

        high_is : state.high ≡ at.high
        high_is = ap (λ (s : PageState). s.high) (sym same) ∙ at.stands.to_high

        there : StandsFor target key state.high (children_of state.body)
        there = subst (λ (o : Slot). StandsOn target key o) home.reached.is (mark_stands tree.slots target starts q)

        by : (high : Option KeyBytes) → at.high ≡ high → side_of tree.slots q ≡ Some p
        by None e = absurd (different (ap (λ (o : Option KeyBytes). is_below_end o low) (sym e ∙ sym high_is) ∙ not_past))
        by (Some h) e =
            let g = at.goes_on h e in
            let st = g.4.1.1 in
            let past : is_lt (key_cmp low h) ≡ false = ap (λ (o : Option KeyBytes). is_below_end o low) (sym e ∙ sym high_is) ∙ not_past in
            let upto : is_lt (key_cmp h low) ≡ false =
            sym (before h) ∙ ap (lies_past target) (sym e ∙ sym high_is) ∙ there.end ∙ ap not (holds _ home.ends_above) in
            let at_low : st.state.low ≡ low = st.from_low ∙ neither_below h low upto past in
            let wide : is_below_end st.state.high low ≡ true =
            ap (λ (k : KeyBytes). is_below_end st.state.high k) (sym at_low) ∙ holds _ (wide_of st.state.low st.state.high st.state.side st.state.body st.sound) in
            let one : g.0 ≡ p =
            at_home g.0 st.state (suc home.reached.in_level.0, g.2, g.3) st.is (ap (λ (k : KeyBytes). is_lt (key_cmp low k)) at_low ∙ below_self low) wide in
            side_is tree.slots n at.low at.high at.side q at.stands ∙ g.1 ∙ ap Some one

  -- so a search for what lies before that key finds it
  pub found_left : (p n : ℕ) → IsInLevel tree p n → (target : Target) → ((k : KeyBytes) → lies_from target k ≡ is_below_end (Some (low_of (slot_at tree.slots p))) k) → T (lies_from target []) →
      (found : Option ℕ) → MatchOption found (length tree.levels ≤ n) (AreAtHomeOn tree target n) → MatchOption found (HasNoLeft tree p) (IsLeft tree p)
  found_left p n on target before starts None short = absurd (omega (arith, short, on.0))
  found_left p n on target before starts (Some q) homes = is_left p n on target before starts q homes

  -- a page of the level above that has an index entry at a key has the key in its range
  pub entry_home : (parent n : ℕ) (key : KeyBytes) (child : ℕ) → IsInLevel tree parent (suc n) → HasChildAt (slot_at tree.slots parent) key child → IsHomeAt tree.slots tree.levels key (suc n) parent
  entry_home parent n key child on has = record {
    reached = record { within = on.0; in_level = on.1; state = st.state; is = st.is; from_low = left_of _ _ inside };
    ends_above = right_of _ _ inside;
  }
    where
      st : Stands tree.slots (suc n) (row_at (suc n) parent on).low (row_at (suc n) parent on).high (row_at (suc n) parent on).side parent
      st = (row_at (suc n) parent on).stands

      among : (low : KeyBytes) (high : Option KeyBytes) (es : List (KeyBytes × ℕ)) (child : ℕ) → T (list_all (is_pair_in_range low high) es) → Contains es (key, child) → T (is_in_range low high key)
      among low high [] child all (i, lt, at) = absurd (omega (arith, lt))
      among low high (e ∷ es) child all (zero, lt, at) = subst (λ (x : KeyBytes × ℕ). T (is_in_range low high x.0)) at (left_of _ _ all)
      among low high (e ∷ es) child all (suc i, lt, at) = among low high es child (right_of _ _ all) (i, omega (arith, lt), at)

      within : (low : KeyBytes) (high : Option KeyBytes) (side : Option ℕ) (b : Body) → IsSoundBody low high side b → (child : ℕ) → Contains (children_of b) (key, child) → T (is_in_range low high key)
      within low high side (Pairs pairs writes) sound child has = absurd (omega (arith, has.1))
      within low high side (Children level children) sound child has = among low high children child sound.page.inside has

      inside : T (is_in_range st.state.low st.state.high key)
      inside = within st.state.low st.state.high st.state.side st.state.body st.sound child (subst (λ (o : Slot). HasChildAt o key child) st.is has)

  -- the level on which its namer looks for it is its own
  namer_level : (p n parent : ℕ) → IsInLevel tree p n → (u : IsNamer tree p parent) → u.level ≡ n
  namer_level p n parent on u = sym (own_level tree.slots root tree.levels lawful p u.level u.in_level.0 u.in_level.1) ∙ own_level tree.slots root tree.levels lawful p n on.0 on.1

  -- so a page's low key is at home on the page that names it
  namer_home : (p n parent : ℕ) → IsInLevel tree p n → IsNamer tree p parent → IsHomeAt tree.slots tree.levels (low_of (slot_at tree.slots p)) (suc n) parent
  namer_home p n parent on u =
      subst (λ m. IsHomeAt tree.slots tree.levels (low_of (slot_at tree.slots p)) (suc m) parent) (namer_level p n parent on u)
      (entry_home parent u.level (low_of (slot_at tree.slots p)) p u.above u.named)

  -- one page names a page
  pub one_namer : (p parent other : ℕ) → IsNamer tree p parent → IsNamer tree p other → parent ≡ other
  one_namer p parent other u v =
      one_above tree.slots root tree.levels lawful (suc v.level) (low_of (slot_at tree.slots p)) parent other
      (namer_home p v.level parent v.in_level u) (namer_home p v.level other v.in_level v)

  -- no page names one of no level, nor one of a level that has none above
  pub no_namer_off : (p : ℕ) → IsInNoLevel tree p → HasNoNamer tree p
  no_namer_off p none = λ parent u. none u.level u.in_level

  pub no_namer_top : (p n : ℕ) → IsInLevel tree p n → length tree.levels ≤ suc n → HasNoNamer tree p
  no_namer_top p n on top = λ parent u. omega (arith, top, u.above.0, namer_level p n parent on u)

  -- the key is at home on one page, so no page has one where that page isn't
  pub no_namer_there : (p parent : ℕ) → IsAbove tree p parent → (IsNamer tree p parent → ⊥) → HasNoNamer tree p
  no_namer_there p parent a none = λ other u.
      none (subst (IsNamer tree p) (one_above tree.slots root tree.levels lawful (suc a.level) (low_of (slot_at tree.slots p)) other parent (namer_home p a.level other a.in_level u) a.home) u)

  -- the page in whose range it begins names it exactly where it has the entry
  pub decides_namer : (p parent : ℕ) → IsAbove tree p parent → (answer : Bool) → Decides answer (HasChildAt (slot_at tree.slots parent) (low_of (slot_at tree.slots p)) p) → Decides answer (IsNamer tree p parent)
  decides_namer p parent a answer has =
      (λ yes. record { level = a.level; in_level = a.in_level; above = (a.home.reached.within, a.home.reached.in_level); named = has.0 yes }, λ u. has.1 u.named)

  -- a child that is a page begins at its separator, so it is the one of the level that does
  pub own_child : AreExact tree.slots tree.levels → (p n : ℕ) (c : ℕ) (s : PageState) → IsInLevel tree p n → suc n < length tree.levels → IsTerm tree.slots tree.levels n (low_of (slot_at tree.slots p)) c → slot_at tree.slots c ≡ Live s → c ≡ p
  own_child exact p n c s on within term live = own_page tree.slots root tree.levels lawful p n on.0 on.1 (low_of (slot_at tree.slots p)) c (low_at_is p (record { level = n; within = on.0; in_level = on.1 })) (record {
    reached = record { within = on.0; in_level = there; state = s; is = live; from_low = subst (λ (k : KeyBytes). IsUpto s.low k) begins (not_holds _ (below_self s.low)) };
    ends_above = subst (λ (k : KeyBytes). T (is_below_end s.high k)) begins (wide_of s.low s.high s.side s.body sound);
  })
    where
      leads : LeadsBelow tree.slots (row tree.levels n) (low_of (slot_at tree.slots p)) c
      leads = lawful.terms n term.page term.state (low_of (slot_at tree.slots p)) c within term.in_level term.is term.named

      begins : s.low ≡ low_of (slot_at tree.slots p)
      begins = exact.begins n (low_of (slot_at tree.slots p)) c s within term live

      there : Contains (row tree.levels n) c
      there = subst (Contains (row tree.levels n)) (sym (live_way tree.slots c leads.page leads.removed s live leads.way).1) leads.in_level

      st : InRow tree.slots n (row tree.levels n) there.0 c
      st = row_at n c (on.0, there)

      sound : IsSoundPage s
      sound = subst IsSoundPage (one_state (sym st.stands.is ∙ live)) st.stands.sound

  -- a page that begins at the key where one of the level below does names that one, as no page begins with a removed child
  pub named_first : AreExact tree.slots tree.levels → (p n : ℕ) (c : ℕ) → IsInLevel tree p n → suc n < length tree.levels → (term : IsTerm tree.slots tree.levels n (low_of (slot_at tree.slots p)) c) → is_lt (key_cmp term.state.low (low_of (slot_at tree.slots p))) ≡ false → c ≡ p
  named_first exact p n c on within term first = by (slot_at tree.slots c) refl
    where
      by : (o : Slot) → slot_at tree.slots c ≡ o → c ≡ p
      by Free free = absurd (child_there tree.slots root tree.levels lawful n (low_of (slot_at tree.slots p)) c within term free)
      by (Gone g) gone = absurd (different (sym (exact.behind n (low_of (slot_at tree.slots p)) c g within term gone) ∙ first))
      by (Live s) live = own_child exact p n c s on within term live

  -- a page isn't the first child of a page that names its left neighbour, too
  pub no_first_child : AreExact tree.slots tree.levels → (p q parent : ℕ) → IsLeft tree q p → IsNamer tree p parent → IsNamer tree q parent → IsNoFirstChild tree.slots tree.levels q
  no_first_child exact p q parent left a b = λ n k within term.
      let here = beside q p left in
      let at = row_at here.level q here.in_level in
      let leads = lawful.terms n term.page term.state k q within term.in_level term.is term.named in
      let there : Contains (row tree.levels n) q =
      subst (Contains (row tree.levels n)) (sym (live_way tree.slots q leads.page leads.removed at.stands.state at.stands.is leads.way).1) leads.in_level in
      let on : IsInLevel tree q n = (omega (arith, within), there) in
      let key : low_of (slot_at tree.slots q) ≡ k = ap low_of at.stands.is ∙ exact.begins n k q at.stands.state within term at.stands.is in
      let home = namer_home q n parent on b in
      let named : HasChildAt (slot_at tree.slots term.page) k q = subst (λ (o : Slot). HasChildAt o k q) (sym term.is) term.named in
      let own : IsHomeAt tree.slots tree.levels k (suc n) term.page = entry_home term.page n k q (within, term.in_level) named in
      let same : term.page ≡ parent = one_above tree.slots root tree.levels lawful (suc n) k term.page parent own (subst (λ (x : KeyBytes). IsHomeAt tree.slots tree.levels x (suc n) parent) key home) in
      let over = entry_home parent a.level (low_of (slot_at tree.slots p)) p a.above a.named in
      let state : term.state ≡ over.reached.state = one_state (sym term.is ∙ ap (slot_at tree.slots) same ∙ over.reached.is) in
      let starts : low_of (slot_at tree.slots p) ≡ here.start = ap low_of here.left.is ∙ here.left.from_low in
      let rises : is_lt (key_cmp (low_of (slot_at tree.slots p)) k) ≡ true =
      ap (λ (x : KeyBytes). is_lt (key_cmp x k)) starts ∙ ap (λ (x : KeyBytes). is_lt (key_cmp here.start x)) (sym key ∙ here.begins) ∙ low_below tree.slots here.level here.start here.low (Some q) p here.left in
      ap (λ (s : PageState). is_lt (key_cmp s.low k)) state
      ∙ upto_below over.reached.state.low (low_of (slot_at tree.slots p)) k (holds_not _ over.reached.from_low) rises

  pub starts_above : (p parent : ℕ) → IsAbove tree p parent → StartsUpto (slot_at tree.slots parent) (low_of (slot_at tree.slots p))
  starts_above p parent a = subst (λ (o : Slot). StartsUpto o (low_of (slot_at tree.slots p))) (sym a.home.reached.is) a.home.reached.from_low

  -- a page of the lowest level is a leaf
  pub lowest_leaf : (p : ℕ) → IsInLevel tree p 0 → is_leaf (slot_at tree.slots p) ≡ true
  lowest_leaf p on = ap is_leaf st.is ∙ by st.state.low st.state.high st.state.side st.state.body st.sound st.at_level
    where
      st : Stands tree.slots 0 (row_at 0 p on).low (row_at 0 p on).high (row_at 0 p on).side p
      st = (row_at 0 p on).stands

      by : (low : KeyBytes) (high : Option KeyBytes) (side : Option ℕ) (b : Body) → IsSoundBody low high side b → level_of b ≡ 0 → body_is_leaf b ≡ true
      by low high side (Pairs pairs writes) sound at = refl
      by low high side (Children level children) sound at = absurd (omega (arith, sound.raised, at))
