-- Right neighbours that get their index entries at once.
use Rattle.std.proofs.Common.{◌≡◌, ℕ, suc, ◌<◌, true, false, T, List, [], ◌∷◌, ◌++◌, length, Option, Some, refl, sym, ap, ◌∙◌, subst, arith}
use Rattle.std.specs.Ordering.{is_lt}
use Rattle.std.specs.FinMap.{is_sorted}
use Rattle.std.specs.FinMap.Entries.{below_all}
use Rattle.bw_key.specs.Order.{KeyBytes, key_cmp}
use Rattle.bw_model.specs.Contents.{is_below_end}
use Rattle.bw_page.proofs.KeyLemmas.{below_back, below_self, upto_below}
use Rattle.bw_page.proofs.Truths.{both_of, holds, true_holds}
use Rattle.bw_level.specs.Before.{low_of}
use Rattle.bw_level.specs.Entries.{AreExact}
use Rattle.bw_level.specs.Levels.{AreLevels, IsHomeAt, row}
use Rattle.bw_level.specs.Scans.{high_of}
use Rattle.bw_level.specs.Searches.{IsInLevels}
use Rattle.bw_level.specs.Slots.{Body, Pairs, Children, IsSoundBody, side_of, slot_at}
use Rattle.bw_level.specs.Walk.{walked}
use Rattle.bw_level.proofs.AboveLemmas.{one_above, own_level}
use Rattle.bw_level.proofs.RowLemmas.{InRow, in_row}
use Rattle.bw_level.proofs.RouteLemmas.{side_bounded}
use Rattle.bw_level.proofs.WalkLemmas.{way_falls}
use Rattle.bw_look.specs.Unnamed.{IsUnnamed}
use Rattle.bw_tree.specs.TreeChildren.{MayHaveChildren}
use Rattle.bw_look.specs.View.{TreeView}
use Rattle.bw_look.proofs.UnnamedLemmas.{fits_child}
use Rattle.bw_steps.specs.Naming.{AreAllUnnamed, AreUnnamed, last_page}

-- the last page with one entry more
pub last_more : (p : ℕ) (es : List (KeyBytes × ℕ)) (e : KeyBytes × ℕ) → last_page p (es ++ e ∷ []) ≡ e.1
last_more p [] e = refl
last_more p (x ∷ es) e = last_more x.1 es e

wide : (low : KeyBytes) (high : Option KeyBytes) (side : Option ℕ) (b : Body) → IsSoundBody low high side b → T (is_below_end high low)
wide low high side (Pairs pairs writes) sound = sound.page.wide
wide low high side (Children level children) sound = sound.page.wide

module _ (tree : TreeView) (parent : ℕ) where
  -- one more
  pub more_unnamed : (p : ℕ) (es : List (KeyBytes × ℕ)) (e : KeyBytes × ℕ) → AreUnnamed tree p parent es → IsUnnamed tree (last_page p es) parent e.0 e.1 → AreUnnamed tree p parent (es ++ e ∷ [])
  more_unnamed p [] e all one = (one, tt)
  more_unnamed p (x ∷ es) e all one = (all.0, more_unnamed x.1 es e all.1 one)

  -- where there is one, there are some
  pub some_unnamed : (p : ℕ) (es : List (KeyBytes × ℕ)) (sep : KeyBytes) (q : ℕ) → AreAllUnnamed tree p parent es → IsUnnamed tree p parent sep q → 0 < length es
  some_unnamed p [] sep q all one = absurd (all.all sep q one)
  some_unnamed p (e ∷ es) sep q all one = omega arith

module _ (tree : TreeView) (root : ℕ) (lawful : AreLevels tree.slots root tree.levels) (parent : ℕ) where
  -- one page alone is to name a page's right neighbour
  pub one_parent : (p other : ℕ) (k m : KeyBytes) (q r : ℕ) → IsUnnamed tree p parent k q → IsUnnamed tree p other m r → other ≡ parent
  one_parent p other k m q r one two =
      let level : two.level ≡ one.level = sym (own_level tree.slots root tree.levels lawful p two.level two.within two.in_level) ∙ own_level tree.slots root tree.levels lawful p one.level one.within one.in_level in
      let key : m ≡ k = one_key (sym two.ends ∙ one.ends) in
      let home : IsHomeAt tree.slots tree.levels k (suc one.level) other =
      subst (λ n. IsHomeAt tree.slots tree.levels k (suc n) other) level (subst (λ (x : KeyBytes). IsHomeAt tree.slots tree.levels x (suc two.level) other) key two.home) in
      one_above tree.slots root tree.levels lawful (suc one.level) k other parent home one.home
    where
      one_key : {x y : KeyBytes} → Some x ≡ Some y → x ≡ y
      one_key e = cc

module _ (tree : TreeView) (root : ℕ) (lawful : AreLevels tree.slots root tree.levels) (exact : AreExact tree.slots tree.levels) (parent : ℕ) where
  -- they fit
  pub all_fit : (p : ℕ) (es : List (KeyBytes × ℕ)) → AreUnnamed tree p parent es → MayHaveChildren tree parent es
  all_fit p [] all = tt
  all_fit p (e ∷ es) all = (fits_child tree root lawful p exact parent e.0 e.1 all.0, all_fit e.1 es all.1)

  -- the last one stands on a level
  pub last_in_levels : (p : ℕ) (es : List (KeyBytes × ℕ)) → IsInLevels tree.levels p → AreUnnamed tree p parent es → IsInLevels tree.levels (last_page p es)
  last_in_levels p [] on all = on
  last_in_levels p (e ∷ es) on all =
      let fits = fits_child tree root lawful p exact parent e.0 e.1 all.0 in
      last_in_levels e.1 es (record { level = fits.level; within = omega (arith, fits.within); in_level = fits.child_in_level }) all.1

  module _ (p : ℕ) (sep : KeyBytes) (q : ℕ) (one : IsUnnamed tree p parent sep q) where
    here : InRow tree.slots one.level (row tree.levels one.level) one.in_level.0 p
    here = in_row tree.slots one.level [] (row tree.levels one.level) one.in_level.0 p (lawful.rows one.level one.within) one.in_level.1 one.in_level.2

    -- a page's right neighbour begins above it
    begins_above : is_lt (key_cmp (low_of (slot_at tree.slots p)) sep) ≡ true
    begins_above =
        let st = here.stands in
        let high : st.state.high ≡ Some sep = ap high_of (sym st.is) ∙ one.ends in
        ap (λ (k : KeyBytes). is_lt (key_cmp k sep)) (ap low_of st.is)
        ∙ holds _ (subst (λ (o : Option KeyBytes). T (is_below_end o st.state.low)) high (wide st.state.low st.state.high st.state.side st.state.body st.sound))

    begins_there : low_of (slot_at tree.slots q) ≡ sep
    begins_there = let fits = fits_child tree root lawful p exact parent sep q one in ap low_of fits.child_is ∙ fits.begins

    -- there is less to walk from it
    pub walks_less : length (walked (side_of tree.slots) (length tree.slots) q) < length (walked (side_of tree.slots) (length tree.slots) p)
    walks_less = way_falls (side_of tree.slots) (length tree.slots) (side_bounded tree.slots) p q here.way.0 here.way.1.0 here.way.1.1 one.linked

  -- their keys rise
  above_all : (key : KeyBytes) (p : ℕ) (es : List (KeyBytes × ℕ)) → is_lt (key_cmp (low_of (slot_at tree.slots p)) key) ≡ false → AreUnnamed tree p parent es → T (below_all key_cmp key es)
  above_all key p [] upto all = tt
  above_all key p (e ∷ es) upto all =
      let below : is_lt (key_cmp key e.0) ≡ true = upto_below key (low_of (slot_at tree.slots p)) e.0 upto (begins_above p e.0 e.1 all.0) in
      both_of _ _ (true_holds _ below)
      (above_all key e.1 es (ap (λ (k : KeyBytes). is_lt (key_cmp k key)) (begins_there p e.0 e.1 all.0) ∙ below_back key e.0 below) all.1)

  pub all_rise : (p : ℕ) (es : List (KeyBytes × ℕ)) → AreUnnamed tree p parent es → T (is_sorted key_cmp es)
  all_rise p [] all = tt
  all_rise p (e ∷ es) all =
      both_of _ _
      (above_all e.0 e.1 es (ap (λ (k : KeyBytes). is_lt (key_cmp k e.0)) (begins_there p e.0 e.1 all.0) ∙ below_self e.0) all.1)
      (all_rise e.1 es all.1)
