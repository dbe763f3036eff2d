-- A page that the level above doesn't name yet.
use Rattle.std.proofs.Common.{◌≡◌, ℕ, suc, ◌<◌, ◌≤◌, Bool, true, false, List, [], ◌∷◌, Option, Some, refl, sym, ap, ◌∙◌, subst, arith}
use Rattle.std.specs.List.{Contains}
use Rattle.std.specs.Ordering.{is_lt}
use Rattle.bw_key.specs.Order.{KeyBytes, key_cmp}
use Rattle.bw_page.specs.Pages.{BeginsAt}
use Rattle.bw_page.proofs.KeyLemmas.{below_self, neither_below}
use Rattle.bw_page.proofs.Truths.{holds_not}
use Rattle.bw_level.specs.Before.{low_of}
use Rattle.bw_level.specs.Children.{FitsChild, HasChildAt}
use Rattle.bw_level.specs.Entries.{AreExact}
use Rattle.bw_level.specs.Levels.{AreLevels, IsHomeAt, row}
use Rattle.bw_level.specs.Roots.{IsNeighbour}
use Rattle.bw_level.specs.Scans.{high_of}
use Rattle.bw_level.specs.Searches.{IsInLevels}
use Rattle.bw_level.specs.KeptLevels.{IsTerm}
use Rattle.bw_level.specs.Slots.{Slot, PageState, Body, Pairs, Children, Live, IsSoundBody, IsSoundPage, children_of, level_of, slot_at, slot_level}
use Rattle.bw_level.proofs.AboveLemmas.{one_above, own_level, root_level}
use Rattle.bw_level.proofs.RowLemmas.{InRow, in_row}
use Rattle.bw_look.specs.Unnamed.{HasNoUnnamed, IsUnnamed}
use Rattle.bw_look.specs.Routing.{IsInnerPage}
use Rattle.bw_look.specs.View.{TreeView}
use Rattle.bw_look.proofs.NeighbourLemmas.{AreBeside, beside}
use Rattle.bw_look.proofs.PageLemmas.{named_first}

one_state : {s t : PageState} → Live s ≡ Live t → s ≡ t
one_state e = cc

one_key : {h k : KeyBytes} → Some h ≡ Some k → h ≡ k
one_key e = cc

one_side : {p q : ℕ} → Some p ≡ Some q → p ≡ q
one_side e = cc

-- an inner page has an index entry where it begins
first_entry : (n : ℕ) (low : KeyBytes) (high : Option KeyBytes) (side : Option ℕ) (b : Body) → IsSoundBody low high side b → level_of b ≡ suc n → (child : ℕ) × Contains (children_of b) (low, child)
first_entry n low high side (Pairs pairs writes) sound at = absurd (omega (arith, at))
first_entry n low high side (Children level children) sound at = by children sound.begins
  where
    by : (es : List (KeyBytes × ℕ)) → BeginsAt low es → (child : ℕ) × Contains es (low, child)
    by [] begins = absurd begins
    by (e ∷ es) begins = (e.1, (0, omega arith, ap (λ (k : KeyBytes). (k, e.1)) begins))

-- a page above the leaves on which a key is at home is an inner page
pub home_inner : (tree : TreeView) (key : KeyBytes) (level p : ℕ) → IsHomeAt tree.slots tree.levels key level p → 0 < level → IsInnerPage tree p
home_inner tree key level p home above = record {
  in_levels = record { level = level; within = home.reached.within; in_level = home.reached.in_level };
  raised = above;
}

module _ (tree : TreeView) (root : ℕ) (lawful : AreLevels tree.slots root tree.levels) (p : ℕ) where
  -- the page's level is what its chain tells
  unnamed_level : (parent : ℕ) (sep : KeyBytes) (q : ℕ) (u : IsUnnamed tree p parent sep q) → slot_level (slot_at tree.slots p) ≡ u.level
  unnamed_level parent sep q u = own_level tree.slots root tree.levels lawful p u.level u.within u.in_level

  -- on the root's level there is none
  pub none_at_top : (n top : ℕ) → slot_level (slot_at tree.slots p) ≡ n → slot_level (slot_at tree.slots root) ≡ top → top ≤ n → HasNoUnnamed tree p
  none_at_top n top at is high = λ parent q sep u.
      omega (arith, at, is, high, root_level tree.slots root tree.levels lawful, lawful.some, unnamed_level parent sep q u, u.home.reached.within)

  -- nor where the page above has the entry
  pub none_named : (n parent : ℕ) (sep : KeyBytes) (q : ℕ) → IsNeighbour (slot_at tree.slots p) n sep q → IsHomeAt tree.slots tree.levels sep (suc n) parent → HasChildAt (slot_at tree.slots parent) sep q → HasNoUnnamed tree p
  none_named n parent sep q next home has = λ other r key u.
      let level : u.level ≡ n = sym (unnamed_level other key r u) ∙ next.at_level in
      let same : key ≡ sep = one_key (sym u.ends ∙ next.ends) in
      let there : IsHomeAt tree.slots tree.levels sep (suc n) other =
      subst (λ m. IsHomeAt tree.slots tree.levels sep (suc m) other) level (subst (λ (k : KeyBytes). IsHomeAt tree.slots tree.levels k (suc u.level) other) same u.home) in
      let one : parent ≡ other = one_above tree.slots root tree.levels lawful (suc n) sep parent other home there in
      let side : r ≡ q = one_side (sym u.linked ∙ next.linked) in
      let there : HasChildAt (slot_at tree.slots other) sep q = subst (λ x. HasChildAt (slot_at tree.slots x) sep q) one has in
      u.unnamed (subst (λ x. HasChildAt (slot_at tree.slots other) key x) (sym side) (subst (λ (k : KeyBytes). HasChildAt (slot_at tree.slots other) k q) (sym same) there))

  -- and else there is one
  pub one_unnamed : (n parent : ℕ) (sep : KeyBytes) (q : ℕ) → IsInLevels tree.levels p → IsNeighbour (slot_at tree.slots p) n sep q → IsHomeAt tree.slots tree.levels sep (suc n) parent → (HasChildAt (slot_at tree.slots parent) sep q → ⊥) → IsUnnamed tree p parent sep q
  one_unnamed n parent sep q on next home none =
      let level : n ≡ on.level = sym next.at_level ∙ own_level tree.slots root tree.levels lawful p on.level on.within on.in_level in
      record {
        level = on.level;
        within = on.within;
        in_level = on.in_level;
        ends = next.ends;
        linked = next.linked;
        home = subst (λ m. IsHomeAt tree.slots tree.levels sep (suc m) parent) level home;
        unnamed = none;
      }

  -- the page above may name the neighbour: it begins below the key, since it names the page that begins where it does
  module _ (exact : AreExact tree.slots tree.levels) (parent : ℕ) (sep : KeyBytes) (q : ℕ) (u : IsUnnamed tree p parent sep q) where
    abbrev over : PageState
    over = u.home.reached.state

    here : AreBeside tree.slots u.level p q (row tree.levels u.level)
    here =
        let at = in_row tree.slots u.level [] (row tree.levels u.level) u.in_level.0 p (lawful.rows u.level u.within) u.in_level.1 u.in_level.2 in
        beside tree.slots u.level p q (row tree.levels u.level) u.in_level.0 at u.linked

    -- the neighbour begins at the key
    begins : here.right.state.low ≡ sep
    begins = here.right.from_low ∙ one_key (sym here.left.to_high ∙ ap high_of (sym here.left.is) ∙ u.ends)

    low_is : low_of (slot_at tree.slots q) ≡ sep
    low_is = ap low_of here.right.is ∙ begins

    there : InRow tree.slots (suc u.level) (row tree.levels (suc u.level)) u.home.reached.in_level.0 parent
    there =
        let r = u.home.reached in
        in_row tree.slots (suc u.level) [] (row tree.levels (suc u.level)) r.in_level.0 parent (lawful.rows (suc u.level) r.within) r.in_level.1 r.in_level.2

    first : (child : ℕ) × Contains (children_of over.body) (over.low, child)
    first =
        let st = there.stands in
        let state : st.state ≡ over = one_state (sym st.is ∙ u.home.reached.is) in
        let sound : IsSoundPage over = subst IsSoundPage state st.sound in
        let at : level_of over.body ≡ suc u.level = sym (ap (λ (s : PageState). level_of s.body) state) ∙ st.at_level in
        first_entry u.level over.low over.high over.side over.body sound at

    named_there : over.low ≡ sep → HasChildAt (slot_at tree.slots parent) sep q
    named_there same =
        let named : Contains (children_of over.body) (sep, first.0) = subst (λ (k : KeyBytes). Contains (children_of over.body) (k, first.0)) same first.1 in
        let term : IsTerm tree.slots tree.levels u.level (low_of (slot_at tree.slots q)) first.0 =
        record { page = parent; in_level = u.home.reached.in_level; state = over; is = u.home.reached.is; named = subst (λ (k : KeyBytes). Contains (children_of over.body) (k, first.0)) (sym low_is) named } in
        let at_first : is_lt (key_cmp over.low (low_of (slot_at tree.slots q))) ≡ false =
        ap (λ (k : KeyBytes). is_lt (key_cmp over.low k)) (low_is ∙ sym same) ∙ below_self over.low in
        let own : first.0 ≡ q = named_first tree root lawful exact q u.level first.0 (u.within, here.in_row) u.home.reached.within term at_first in
        subst (λ (o : Slot). HasChildAt o sep q) (sym u.home.reached.is) (subst (λ c. Contains (children_of over.body) (sep, c)) own named)

    begins_below : is_lt (key_cmp over.low sep) ≡ true
    begins_below = by (is_lt (key_cmp over.low sep)) refl
      where
        by : (b : Bool) → is_lt (key_cmp over.low sep) ≡ b → b ≡ true
        by true e = refl
        by false e = absurd (u.unnamed (named_there (neither_below over.low sep e (holds_not _ u.home.reached.from_low))))

    pub fits_child : FitsChild tree.slots tree.levels parent sep q
    fits_child = record {
      level = u.level;
      within = u.home.reached.within;
      in_level = u.home.reached.in_level;
      state = over;
      is = u.home.reached.is;
      above = begins_below;
      inside = u.home.ends_above;
      child_in_level = here.in_row;
      child_state = here.right.state;
      child_is = here.right.is;
      begins = begins;
    }
