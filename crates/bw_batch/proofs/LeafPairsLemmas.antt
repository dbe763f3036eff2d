-- The leaves of a tree have as many pairs as the tree holds.
use Rattle.std.proofs.Common.{◌≡◌, ℕ, zero, suc, ◌+◌, ◌<◌, true, false, Bool, cond, not, ◌&&◌, List, [], ◌∷◌, ◌++◌, length, map, filter, take, get_or, Option, Some, None, refl, sym, ap, ◌∙◌, add-one, arith}
use Rattle.std.specs.Prelude.{nat_eq}
use Rattle.std.proofs.Math.Dec.{eqb-suc-zero}
use Rattle.std.specs.Ordering.{is_lt}
use Rattle.std.specs.FinMap.{entries, len, len-entries}
use Rattle.bw_key.specs.Order.{KeyBytes, key_cmp}
use Rattle.bw_model.specs.Contents.{Contents, is_pair_in_range, pairs_of_range}
use Rattle.bw_model.specs.Values.{ValueBytes}
use Rattle.bw_page.proofs.KeyLemmas.{below_trans}
use Rattle.bw_level.specs.Before.{low_of}
use Rattle.bw_level.specs.Levels.{AreLevels, SideBySide, Stands, row}
use Rattle.bw_level.specs.Scans.{high_of}
use Rattle.bw_level.specs.Slots.{Body, Pairs, Children, IsSoundBody, body_is_leaf, is_leaf, level_of, slot_at}
use Rattle.bw_level.proofs.LeafRowLemmas.{low_below}
use Rattle.bw_level.specs.Splits.{slot_entries}
use Rattle.bw_look.specs.Shapes.{level_shape, levels_shape, page_shape, pairs_on, shape_of}
use Rattle.bw_look.specs.View.{TreeView, contents_at}
use Rattle.bw_look.specs.declared.look.shape.PageShape.{PageShape}
use Rattle.bw_look.proofs.ConsolidatedLeaves.{high_is}
use Rattle.bw_batch.specs.Lens.{leaf_pairs}
use Rattle.bw_delta.proofs.Replays.{all_in_range}

-- a range cut in two at a key above its low one, with one entry more
one_more : (low high : KeyBytes) → is_lt (key_cmp low high) ≡ true → (e : KeyBytes × ValueBytes) (first second all : List (KeyBytes × ValueBytes)) → length first + length second ≡ length all →
    length (cond (is_pair_in_range low (Some high) e) (e ∷ first) first) + length (cond (is_pair_in_range high None e) (e ∷ second) second) ≡ length (cond (is_pair_in_range low None e) (e ∷ all) all)
one_more low high wide e first second all rest = by (is_lt (key_cmp e.0 low)) (is_lt (key_cmp e.0 high)) refl refl
  where
    by : (a b : Bool) → is_lt (key_cmp e.0 low) ≡ a → is_lt (key_cmp e.0 high) ≡ b →
        length (cond (not (is_lt (key_cmp e.0 low)) && is_lt (key_cmp e.0 high)) (e ∷ first) first) + length (cond (not (is_lt (key_cmp e.0 high)) && true) (e ∷ second) second) ≡ length (cond (not (is_lt (key_cmp e.0 low)) && true) (e ∷ all) all)
    by true true below under = rw (below, under) rest
    by true false below under = absurd (cc (below_trans e.0 low high below wide, under))
    by false true below under = rw (below, under) (omega (arith, rest))
    by false false below under = rw (below, under) (omega (arith, rest))

two_parts : (low high : KeyBytes) → is_lt (key_cmp low high) ≡ true → (es : List (KeyBytes × ValueBytes)) →
    length (filter (is_pair_in_range low (Some high)) es) + length (filter (is_pair_in_range high None) es) ≡ length (filter (is_pair_in_range low None) es)
two_parts low high wide [] = refl
two_parts low high wide (e ∷ es) =
    one_more low high wide e (filter (is_pair_in_range low (Some high)) es) (filter (is_pair_in_range high None) es) (filter (is_pair_in_range low None) es) (two_parts low high wide es)

-- a page of the lowest level is a leaf
leaf_body : (low : KeyBytes) (high : Option KeyBytes) (side : Option ℕ) (b : Body) → IsSoundBody low high side b → level_of b ≡ 0 → body_is_leaf b ≡ true
leaf_body low high side (Pairs pairs writes) sound at = refl
leaf_body low high side (Children level children) sound at = absurd (omega (arith, sound.raised, at))

module _ (tree : TreeView) where
  abbrev held : Contents ValueBytes
  held = contents_at tree tree.next

  -- the pairs of a leaf
  pairs_of_leaf : (low : KeyBytes) (high : Option KeyBytes) (side : Option ℕ) (p : ℕ) → Stands tree.slots 0 low high side p → pairs_on tree (slot_at tree.slots p) ≡ length (pairs_of_range held low high)
  pairs_of_leaf low high side p st =
      let slot = slot_at tree.slots p in
      let leaf : is_leaf slot ≡ true = ap is_leaf st.is ∙ leaf_body st.state.low st.state.high st.state.side st.state.body st.sound st.at_level in
      ap (λ b. cond b (length (pairs_of_range held (low_of slot) (high_of slot))) (slot_entries slot)) leaf
      ∙ ap (λ (k : KeyBytes). length (pairs_of_range held k (high_of slot))) (ap low_of st.is ∙ st.from_low)
      ∙ ap (λ (h : Option KeyBytes). length (pairs_of_range held low h)) (high_is tree.slots 0 low high side p st)

  row_has : (low : KeyBytes) (ps : List ℕ) → SideBySide tree.slots 0 low ps → leaf_pairs (map (page_shape tree 0) ps) ≡ length (pairs_of_range held low None)
  row_has low [] h = absurd h
  row_has low (p ∷ []) h = omega (arith, pairs_of_leaf low None None p h)
  row_has low (p ∷ q ∷ ps) h =
      omega (arith, pairs_of_leaf low (Some h.0) (Some q) p h.1, row_has h.0 (q ∷ ps) h.2, two_parts low h.0 (low_below tree.slots 0 low h.0 (Some q) p h.1) (entries held))

  -- inner pages count nothing
  none_above : (level : ℕ) (ps : List ℕ) → leaf_pairs (map (page_shape tree (suc level)) ps) ≡ 0
  none_above level [] = refl
  none_above level (p ∷ ps) =
      let page = page_shape tree (suc level) p in
      let rest = leaf_pairs (map (page_shape tree (suc level)) ps) in
      ap (λ b. cond b page.pairs 0 + rest) (eqb-suc-zero level) ∙ omega (arith, none_above level ps)

  both : (xs ys : List PageShape) → leaf_pairs (xs ++ ys) ≡ leaf_pairs xs + leaf_pairs ys
  both [] ys = omega arith
  both (x ∷ xs) ys = omega (arith, both xs ys)

  of_levels : (n : ℕ) → leaf_pairs (levels_shape tree (suc n)) ≡ leaf_pairs (level_shape tree 0)
  of_levels zero = refl
  of_levels (suc n) = omega (arith, both (levels_shape tree (suc n)) (level_shape tree (suc n)), of_levels n, none_above n (row tree.levels (suc n)))

  pub leaves_hold : AreLevels tree.slots tree.root tree.levels → leaf_pairs (shape_of tree) ≡ len held
  leaves_hold lawful = by (length tree.levels) refl
    where
      by : (n : ℕ) → n ≡ length tree.levels → leaf_pairs (levels_shape tree n) ≡ len held
      by zero none = absurd (omega (arith, lawful.some, none))
      by (suc n) some =
          of_levels n
          ∙ row_has [] (row tree.levels 0) (lawful.rows 0 lawful.some)
          ∙ ap (λ (l : List (KeyBytes × ValueBytes)). length l) (all_in_range (entries held))
          ∙ sym (len-entries held)

-- one page more
pages_more : (pages : List PageShape) (place : ℕ) (page : PageShape) → place < length pages → page ≡ get_or pages place page → leaf_pairs (take (suc place) pages) ≡ leaf_pairs (take place pages) + cond (nat_eq page.level 0) page.pairs 0
pages_more [] place page lt at = absurd (omega (arith, lt))
pages_more (x ∷ xs) zero page lt at = ap (λ (y : PageShape). cond (nat_eq y.level 0) y.pairs 0 + 0) (sym at) ∙ omega arith
pages_more (x ∷ xs) (suc place) page lt at = omega (arith, pages_more xs place page (omega (arith, lt)) at)

pub one_page_more : (pages : List PageShape) (place count next : ℕ) (page : PageShape) → place < length pages → page ≡ get_or pages place page → count ≡ leaf_pairs (take place pages) → next ≡ count + leaf_pairs (page ∷ []) → next ≡ leaf_pairs (take (place + 1) pages)
one_page_more pages place count next page lt at so more =
    omega (arith, more, so, pages_more pages place page lt at, ap (λ n. leaf_pairs (take n pages)) (add-one place))
