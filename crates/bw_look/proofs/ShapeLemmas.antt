-- The list of a tree's pages, level by level.
use Rattle.std.proofs.Common.{◌≡◌, ℕ, zero, suc, ◌<◌, true, cond, List, [], ◌∷◌, ◌++◌, length, take, get_or, Option, Some, None, refl, sym, ap, ◌∙◌, subst, arith}
use Rattle.std.specs.List.{Contains}
use Rattle.std.proofs.lemmas.List.{take_all}
use Rattle.bw_key.specs.Order.{KeyBytes}
use Rattle.bw_model.specs.Contents.{pairs_of_range}
use Rattle.bw_model.specs.Values.{ValueBytes}
use Rattle.bw_page.specs.Inners.{InnerView}
use Rattle.bw_delta.specs.History.{HasDistinctStamps}
use Rattle.bw_level.specs.Before.{low_of}
use Rattle.bw_level.specs.Levels.{AreLevels, IsHomeAt, row}
use Rattle.bw_level.specs.Reading.{row_writes, writes_over}
use Rattle.bw_level.specs.Scans.{ArePairsOn, high_of}
use Rattle.bw_level.specs.Searches.{plain_inner}
use Rattle.bw_level.specs.Slots.{Slot, Body, Pairs, Children, IsSoundBody, body_is_leaf, is_leaf, level_of, side_of, slot_at}
use Rattle.bw_level.specs.Splits.{slot_entries}
use Rattle.bw_level.specs.Walk.{walked}
use Rattle.bw_level.proofs.RouteLemmas.{side_bounded}
use Rattle.bw_level.proofs.RowLemmas.{InRow, in_row}
use Rattle.bw_level.proofs.WalkLemmas.{way_falls}
use Rattle.bw_look.specs.Routing.{IsInLevel, IsInnerPage}
use Rattle.bw_look.specs.Shapes.{page_shape, pairs_on}
use Rattle.bw_look.specs.View.{TreeView, contents_at}
use Rattle.bw_look.specs.declared.look.shape.PageShape.{PageShape}
use Rattle.bw_look.proofs.ConsolidatedLeaves.{first_home, pairs_here, high_is, row_ends, side_is}
use Rattle.bw_look.proofs.LeafRangeLemmas.{leaf_in_row}

-- a page of these parts
abbrev pub of_parts : ℕ → ℕ → KeyBytes → Option KeyBytes → ℕ → ℕ → PageShape
of_parts level p low high pairs writes = record { page = p; level = level; low = low; high = high; pairs = pairs; writes = writes }

pub parts_shape : (tree : TreeView) (level p : ℕ) (low : KeyBytes) (high : Option KeyBytes) (pairs writes : ℕ) → low ≡ low_of (slot_at tree.slots p) → high ≡ high_of (slot_at tree.slots p) → pairs ≡ pairs_on tree (slot_at tree.slots p) → writes ≡ length (writes_over (slot_at tree.slots p)) →
    of_parts level p low high pairs writes ≡ page_shape tree level p
parts_shape tree level p low high pairs writes lows highs all over =
    let slot = slot_at tree.slots p in
    ap (λ (k : KeyBytes). of_parts level p k high pairs writes) lows
    ∙ ap (λ (o : Option KeyBytes). of_parts level p (low_of slot) o pairs writes) highs
    ∙ ap (λ n. of_parts level p (low_of slot) (high_of slot) n writes) all
    ∙ ap (λ n. of_parts level p (low_of slot) (high_of slot) (pairs_on tree slot) n) over

-- an inner page has no writes, and as many entries as children
pub inner_shape : (tree : TreeView) (level p : ℕ) (inner : InnerView) (low : KeyBytes) (high : Option KeyBytes) (children : ℕ) → slot_at tree.slots p ≡ plain_inner inner → low ≡ inner.low → high ≡ inner.high → children ≡ length inner.children →
    of_parts level p low high children 0 ≡ page_shape tree level p
inner_shape tree level p inner low high children slot lows highs all =
    parts_shape tree level p low high children 0 (lows ∙ sym (ap low_of slot)) (highs ∙ sym (ap high_of slot)) (all ∙ sym (ap (pairs_on tree) slot)) (sym (ap (λ (o : Slot). length (writes_over o)) slot))

-- a page of a level above the leaves
pub raised_page : (tree : TreeView) (level p : ℕ) → IsInLevel tree p level → 0 < level → IsInnerPage tree p
raised_page tree level p on raised = record { in_levels = record { level = level; within = on.0; in_level = on.1 }; raised = raised }

-- one page more
one_further : (ps : List ℕ) (k p : ℕ) → k < length ps → get_or ps k p ≡ p → take (suc k) ps ≡ take k ps ++ p ∷ []
one_further [] k p lt at = absurd (omega arith)
one_further (x ∷ xs) zero p lt at = ap (λ y. y ∷ []) at
one_further (x ∷ xs) (suc k) p lt at = ap (λ (l : List ℕ). x ∷ l) (one_further xs k p (omega arith) at)

-- the pages of a level before this one have been listed
pub record AreListed (tree : TreeView) (level : ℕ) (list : List ℕ) (p : ℕ) : Type 0 where
  pub place : ℕ
  pub within : place < length (row tree.levels level)
  pub at : get_or (row tree.levels level) place p ≡ p
  pub so_far : list ≡ take place (row tree.levels level)

-- what comes behind a page that has been listed
pub record ListsOn (tree : TreeView) (level : ℕ) (new : List ℕ) (p q : ℕ) : Type 0 where
  pub listed : AreListed tree level new q
  pub less : length (walked (side_of tree.slots) (length tree.slots) q) < length (walked (side_of tree.slots) (length tree.slots) p)

module _ (tree : TreeView) (root : ℕ) (lawful : AreLevels tree.slots root tree.levels) where
  -- a page of the lowest level is a leaf
  pub leaf_there : (p : ℕ) → Contains (row tree.levels 0) p → is_leaf (slot_at tree.slots p) ≡ true
  leaf_there p has =
      let st = (leaf_in_row tree.slots root tree.levels lawful p has).stands in
      ap is_leaf st.is ∙ by st.state.low st.state.high st.state.side st.state.body st.sound st.at_level
    where
      by : (low : KeyBytes) (high : Option KeyBytes) (side : Option ℕ) (b : Body) → IsSoundBody low high side b → level_of b ≡ 0 → body_is_leaf b ≡ true
      by low high side (Pairs pairs writes) sound level = refl
      by low high side (Children n children) sound level = absurd (omega (arith, sound.raised, level))

  -- a leaf has the pairs that the tree holds in its range
  pub leaf_pairs_on : HasDistinctStamps (row_writes tree.slots (row tree.levels 0)) → (p stamp : ℕ) (from : KeyBytes) (to : Option KeyBytes) (pairs : List (KeyBytes × ValueBytes)) → Contains (row tree.levels 0) p →
      stamp ≡ tree.next → from ≡ low_of (slot_at tree.slots p) → to ≡ high_of (slot_at tree.slots p) → ArePairsOn (slot_at tree.slots p) from to stamp pairs → length pairs ≡ pairs_on tree (slot_at tree.slots p)
  leaf_pairs_on distinct p stamp from to pairs has now low high so =
      let all = pairs_of_range (contents_at tree tree.next) (low_of (slot_at tree.slots p)) (high_of (slot_at tree.slots p)) in
      ap length (pairs_here tree root lawful p stamp from to pairs distinct has now low high so)
      ∙ sym (ap (λ b. cond b (length all) (slot_entries (slot_at tree.slots p))) (leaf_there p has))

  module _ (level : ℕ) (within : level < length tree.levels) where
    -- the list of a level begins at the home of the least key
    pub begins_listing : (list : List ℕ) (p : ℕ) → list ≡ [] → IsHomeAt tree.slots tree.levels [] level p → AreListed tree level list p
    begins_listing list p none home =
        let r = home.reached in
        let first = first_home tree root lawful level (row tree.levels level) p (lawful.rows level within) (record { in_row = r.in_level; state = r.state; is = r.is; from_low = r.from_low; ends_above = home.ends_above }) in
        record { place = 0; within = first.0; at = first.1; so_far = none }

    with_page : (list new : List ℕ) (p : ℕ) (h : AreListed tree level list p) → new ≡ list ++ p ∷ [] → new ≡ take (suc h.place) (row tree.levels level)
    with_page list new p h more = more ∙ ap (λ (l : List ℕ). l ++ p ∷ []) h.so_far ∙ sym (one_further (row tree.levels level) h.place p h.within h.at)

    here : (list : List ℕ) (p : ℕ) (h : AreListed tree level list p) → InRow tree.slots level (row tree.levels level) h.place p
    here list p h = in_row tree.slots level [] (row tree.levels level) h.place p (lawful.rows level within) h.within h.at

    no_side : {q : ℕ} → None ≡ Some q → ⊥
    no_side e = cc

    one_page : {a b : ℕ} → Some a ≡ Some b → a ≡ b
    one_page e = cc

    -- the list goes on at a page's right neighbour
    pub lists_on : (list new : List ℕ) (p q : ℕ) → AreListed tree level list p → side_of tree.slots p ≡ Some q → new ≡ list ++ p ∷ [] → ListsOn tree level new p q
    lists_on list new p q h step more = from (here list p h).high refl
      where
        at : InRow tree.slots level (row tree.levels level) h.place p
        at = here list p h

        side : at.side ≡ Some q
        side = sym (side_is tree.slots level at.low at.high at.side p at.stands) ∙ step

        from : (o : Option KeyBytes) → at.high ≡ o → ListsOn tree level new p q
        from None none = absurd (no_side (sym (at.ends none) ∙ side))
        from (Some k) some =
            let g = at.goes_on k some in
            record {
              listed = record {
                place = suc h.place;
                within = g.2;
                at = subst (λ z. get_or (row tree.levels level) (suc h.place) z ≡ z) (one_page (sym g.1 ∙ side)) g.3;
                so_far = with_page list new p h more;
              };
              less = way_falls (side_of tree.slots) (length tree.slots) (side_bounded tree.slots) p q at.way.0 at.way.1.0 at.way.1.1 step;
            }

    -- and ends where there is none
    pub all_listed : (list new : List ℕ) (p : ℕ) → AreListed tree level list p → None ≡ side_of tree.slots p → new ≡ list ++ p ∷ [] → new ≡ row tree.levels level
    all_listed list new p h none more = from (here list p h).high refl
      where
        at : InRow tree.slots level (row tree.levels level) h.place p
        at = here list p h

        from : (o : Option KeyBytes) → at.high ≡ o → new ≡ row tree.levels level
        from (Some k) some =
            let g = at.goes_on k some in
            absurd (no_side (none ∙ side_is tree.slots level at.low at.high at.side p at.stands ∙ g.1))
        from None last =
            let ps = row tree.levels level in
            let end = row_ends tree root lawful level [] ps h.place p (lawful.rows level within) h.within h.at (high_is tree.slots level at.low at.high at.side p at.stands ∙ last) in
            with_page list new p h more ∙ ap (λ n. take n ps) end ∙ take_all (length ps) ps (omega arith)
