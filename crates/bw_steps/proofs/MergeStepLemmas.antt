-- Pages that may be merged into their left neighbours, index entries that may go, and roots that have one child.
use Rattle.std.proofs.Common.{◌≡◌, ℕ, suc, ◌-◌, ◌<◌, ◌≤◌, ◌^◌, Bool, true, false, nat_eq, List, [], ◌∷◌, length, Option, Some, None, Decides, is_some, slice_index, refl, sym, ap, ◌∙◌, subst, arith}
use Rattle.std.proofs.lemmas.Bool.{eq-eqb, eqb-true}
use Rattle.std.proofs.lemmas.List.{set-set}
use Rattle.std.specs.List.{Contains}
use Rattle.bw_key.specs.Order.{KeyBytes}
use Rattle.bw_page.specs.declared.pages.RemovedPage.{RemovedPage}
use Rattle.bw_level.specs.Children.{HasChildAt, MayDropChild}
use Rattle.bw_level.specs.Entries.{AreExact}
use Rattle.bw_level.specs.Levels.{AreLevels, BeginsWith, IsHomeAt, row}
use Rattle.bw_level.specs.Roots.{HasOneChild}
use Rattle.bw_level.specs.Searches.{IsInLevels}
use Rattle.bw_level.specs.Slots.{Slot, PageState, Body, Pairs, Children, Gone, Live, IsSoundBody, children_of, level_of, side_of, side_of_slot, slot_at}
use Rattle.bw_level.specs.Splits.{entry_count, slot_entries}
use Rattle.bw_tree.specs.Consolidation.{IsRebased}
use Rattle.bw_tree.specs.TreeMerges.{HasLostChild, MayMerge}
use Rattle.bw_look.specs.RemovedPages.{IsNamerOfRemoved}
use Rattle.bw_look.specs.PageStates.{IsLeft, IsNamer, IsPlain}
use Rattle.bw_look.specs.View.{TreeView}
use Rattle.bw_look.proofs.NeighbourLemmas.{left_beside, one_left}
use Rattle.bw_look.proofs.PageLemmas.{entry_home, one_namer}
use Rattle.bw_tree.proofs.TreeRootLemmas.{IsTop, top_of}
use Rattle.bw_steps.proofs.PlainLemmas.{has_record}

different : false ≡ true → ⊥
different e = cc

one_state : {s t : PageState} → Live s ≡ Live t → s ≡ t
one_state e = cc

no_key : {k : KeyBytes} → Some k ≡ None → ⊥
no_key e = cc

one_key : {k q : KeyBytes} → Some k ≡ Some q → k ≡ q
one_key e = cc

one_removed : {g h : RemovedPage} → Gone g ≡ Gone h → g ≡ h
one_removed e = cc

-- what isn't there isn't decided to be
pub decides_not : {A : Type 0} → (A → ⊥) → Decides false A
decides_not none = (λ e. absurd (different e), λ a. absurd (none a))

-- a page that has a record isn't one by itself
pub not_plain : (tree : TreeView) (p : ℕ) (plain : Bool) → Decides plain (IsPlain tree p) → plain ≡ false → p < length tree.heads → slice_index tree.heads p < 2 ^ 32 → ⊥
not_plain tree p plain tells not there low = omega (arith, low, has_record tree p plain tells not there)

no_child : {e : KeyBytes × ℕ} → ◌≡◌ {A = List (KeyBytes × ℕ)} [] (e ∷ []) → ⊥
no_child e = cc

-- a page with one child is above the leaves, and has one entry
raised_over : (low : KeyBytes) (high : Option KeyBytes) (side : Option ℕ) (b : Body) (e : KeyBytes × ℕ) → children_of b ≡ e ∷ [] → IsSoundBody low high side b → 1 ≤ level_of b
raised_over low high side (Pairs pairs writes) e only sound = absurd (no_child only)
raised_over low high side (Children level children) e only sound = sound.raised

count_of : (b : Body) (e : KeyBytes × ℕ) → children_of b ≡ e ∷ [] → entry_count b ≡ 1
count_of (Pairs pairs writes) e only = absurd (no_child only)
count_of (Children level children) e only = ap length only

one_entry : (es : List (KeyBytes × ℕ)) → length es ≡ 1 → (e : KeyBytes × ℕ) × (es ≡ e ∷ [])
one_entry [] one = absurd (omega (arith, one))
one_entry (e ∷ []) one = (e, refl)
one_entry (e ∷ f ∷ es) one = absurd (omega (arith, one))

-- a page is removed once, so both tell of the same key
pub low_same : (tree : TreeView) (p parent : ℕ) (s : IsNamerOfRemoved tree p parent) (g : RemovedPage) → slot_at tree.slots p ≡ Gone g → s.removed.low ≡ g.low
low_same tree p parent s g gone = ap (λ (h : RemovedPage). h.low) (one_removed (sym s.is ∙ gone))

-- nothing is there
pub none_of : (o : Option ℕ) → is_some o ≡ false → o ≡ None
none_of None e = refl
none_of (Some x) e = absurd (different (sym e))

module _ (tree : TreeView) (root : ℕ) (lawful : AreLevels tree.slots root tree.levels) where
  -- one page names both exactly where the namers are the same
  pub under_one : (page other a b : ℕ) → IsNamer tree page a → IsNamer tree other b → (x y : ℕ) → x ≡ a → y ≡ b → Decides (nat_eq x y) ((parent : ℕ) × (IsNamer tree page parent × IsNamer tree other parent))
  under_one page other a b u v x y x_is y_is = (
    λ e. (a, (u, subst (IsNamer tree other) (sym y_is ∙ sym (eqb-true x y e) ∙ x_is) v)),
    λ w. eq-eqb x y (x_is ∙ one_namer tree root lawful page a w.0 u w.1.0 ∙ one_namer tree root lawful other w.0 b w.1.1 v ∙ sym y_is),
  )

  -- the left neighbour of a page that may be absorbed
  abbrev merges_left : (p q : ℕ) → MayMerge tree q p → IsLeft tree p q
  merges_left p q m = (record { level = m.level; within = m.within; in_level = m.in_level }, m.linked)

  pub absorber_is : (p q r : ℕ) → IsLeft tree p q → MayMerge tree r p → r ≡ q
  absorber_is p q r left m = one_left tree root lawful p r q (merges_left p r m) left

  -- such a page has a mapping word
  pub page_on : (p q : ℕ) → MayMerge tree q p → IsInLevels tree.levels p
  page_on p q m = record { level = m.level; within = m.within; in_level = (left_beside tree root lawful p q (merges_left p q m)).in_row }

  -- an entry of a removed page may go
  pub may_drop : AreExact tree.slots tree.levels → (p parent : ℕ) (s : IsNamerOfRemoved tree p parent) → MayDropChild tree.slots tree.levels parent s.removed.low
  may_drop exact p parent s = record {
    level = s.removed.level;
    within = home.reached.within;
    in_level = home.reached.in_level;
    state = home.reached.state;
    is = home.reached.is;
    above = exact.behind s.removed.level s.removed.low p s.removed home.reached.within (record {
      page = parent;
      in_level = home.reached.in_level;
      state = home.reached.state;
      is = home.reached.is;
      named = named;
    }) s.is;
    child = p;
    named = named;
    removed = s.removed;
    gone = s.is;
  }
    where
      home : IsHomeAt tree.slots tree.levels s.removed.low (suc s.removed.level) parent
      home = entry_home tree root lawful parent s.removed.level s.removed.low p s.above s.named

      named : Contains (children_of home.reached.state.body) (s.removed.low, p)
      named = subst (λ (o : Slot). HasChildAt o s.removed.low p) home.reached.is s.named

  -- the root stands on the highest level
  abbrev top : IsTop tree.slots root (length tree.levels - 1)
  top = top_of tree.slots root tree.levels lawful

  begins_there : (ps : List ℕ) → BeginsWith ps root → Contains ps root
  begins_there [] begins = absurd begins
  begins_there (x ∷ ps) begins = (0, omega arith, begins)

  pub root_on : IsInLevels tree.levels root
  root_on = record { level = length tree.levels - 1; within = omega (arith, lawful.some); in_level = begins_there (row tree.levels (length tree.levels - 1)) lawful.top }

  its_state : (child : ℕ) (h : HasOneChild tree.slots root child) → h.state ≡ top.stands.state
  its_state child h = one_state (sym h.is ∙ top.stands.is)

  -- above the leaves, if it has one child
  pub root_raised : (child : ℕ) → HasOneChild tree.slots root child → 1 ≤ length tree.levels - 1
  root_raised child h =
      let st = top.stands in
      let over : 1 ≤ level_of st.state.body = raised_over st.state.low st.state.high st.state.side st.state.body (h.key, child) (ap (λ (s : PageState). children_of s.body) (sym (its_state child h)) ∙ h.only) st.sound in
      omega (arith, over, st.at_level)

  -- the root has one child alone exactly where it has one entry
  module _ (raised : 0 < length tree.levels - 1) (alone : side_of tree.slots root ≡ None) where
    none_beside : top.stands.state.side ≡ None
    none_beside = ap side_of_slot (sym top.stands.is) ∙ alone

    counted : slot_entries (slot_at tree.slots root) ≡ entry_count top.stands.state.body
    counted = ap slot_entries top.stands.is

    by_one : (b : Body) → top.stands.state.body ≡ b → entry_count b ≡ 1 → level_of b ≡ length tree.levels - 1 → (child : ℕ) × HasOneChild tree.slots root child
    by_one (Pairs pairs writes) same one at = absurd (omega (arith, at, raised))
    by_one (Children level children) same one at =
        let e = one_entry children one in
        (e.0.1, record { state = top.stands.state; is = top.stands.is; alone = none_beside; key = e.0.0; only = ap children_of same ∙ e.1 })

    pub decides_one : (n : ℕ) → n ≡ slot_entries (slot_at tree.slots root) → Decides (nat_eq n 1) ((child : ℕ) × HasOneChild tree.slots root child)
    decides_one n counts = (
      λ e. by_one top.stands.state.body refl (sym counted ∙ sym counts ∙ eqb-true n 1 e) top.stands.at_level,
      λ w. eq-eqb n 1 (counts ∙ ap slot_entries w.1.is ∙ count_of w.1.state.body (w.1.key, w.0) w.1.only),
    )

-- the page that loses a child, after it was left as a base page by itself
pub lost_over : (old mid new : TreeView) (p : ℕ) (sep : KeyBytes) → IsRebased old mid p → HasLostChild mid new p sep → HasLostChild old new p sep
lost_over old mid new p sep rebased lost =
    let on = subst (λ (v : TreeView). HasLostChild v new p sep) rebased.view lost in
    record {
      dropped = on.dropped;
      levels = on.levels;
      contents = on.contents;
      heads = on.heads ∙ set-set old.heads p (slice_index mid.heads p) (slice_index new.heads p);
      changed = on.changed;
      root = on.root;
      records = on.records;
      next = on.next;
      staged = on.staged;
    }
