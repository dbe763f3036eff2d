-- A page whose base page took the place of its chain, and what that is of a leaf.
use Rattle.std.proofs.Common.{set, ◌≡◌, ◌<◌, length, ℕ, Bool, true, false, cond, ◌&&◌, T, List, [], get_or, Option, None, refl, sym, ap, ◌∙◌, subst, arith}
use Rattle.std.proofs.lemmas.List.{get_or_default}
use Rattle.std.specs.List.{Contains}
use Rattle.std.specs.FinMap.{find, is_sorted}
use Rattle.bw_key.specs.Order.{KeyBytes, key_cmp}
use Rattle.bw_model.specs.Contents.{is_below_end, is_in_range, pairs_of_range}
use Rattle.bw_model.specs.Values.{ValueBytes}
use Rattle.bw_page.specs.Leaves.{LeafView}
use Rattle.bw_page.proofs.Truths.{holds, right_of, true_holds}
use Rattle.bw_delta.specs.Batches.{writes_to}
use Rattle.bw_delta.specs.History.{HasDistinctStamps, action_at, history}
use Rattle.bw_delta.specs.Writes.{WriteView}
use Rattle.bw_delta.proofs.Histories.{quiet}
use Rattle.bw_level.specs.Before.{low_of}
use Rattle.bw_level.specs.Changes.{Bases}
use Rattle.bw_chain.specs.Chains.{ChainsView, Records, slot_of_word}
use Rattle.bw_level.specs.Levels.{AreLevels, row}
use Rattle.bw_level.specs.Reading.{base_of, body_pairs, body_writes, pairs_under, row_writes, value_in, writes_over}
use Rattle.bw_level.specs.Scans.{high_of, value_in_range}
use Rattle.bw_level.specs.Searches.{IsInLevels}
use Rattle.bw_level.specs.Slots.{Slot, Body, Pairs, Children, Live, IsSound, IsSoundBody, level_of, side_of, side_of_slot, slot_at}
use Rattle.bw_chain.specs.Restructuring.{IsRebasedAt}
use Rattle.bw_chain.specs.Supports.{base_under}
use Rattle.bw_level.proofs.LeafRowLemmas.{page_outside}
use Rattle.bw_level.proofs.RowLemmas.{InRow, in_row}
use Rattle.bw_tree.specs.Consolidation.{IsConsolidated, IsRebased}
use Rattle.bw_look.specs.PageStates.{leaf_as_of}
use Rattle.bw_tree.specs.Making.{leaf_slot}
use Rattle.bw_look.specs.Trees.{IsStanding, IsTree, StageWords, view_of}
use Rattle.bw_look.specs.View.{TreeView, contents_at}
use Rattle.bw_look.proofs.ConsolidatedLeaves.{high_is, pairs_here}
use Rattle.bw_tree.proofs.RebaseLemmas.{rebased_on}
use Rattle.bw_look.proofs.RoutingLemmas.{page_at_head}
use Rattle.bw_look.proofs.LeafRangeLemmas.{leaf_in_row}

-- a page of a level stays and is sound, as its mapping word leads to it
pub sound_at : (heads : List ℕ) (bases : Bases) (records : Records) (root next bound : ℕ) (staged : Option StageWords) (tree : TreeView) (p head : ℕ) → view_of heads bases records root next staged ≡ tree → IsStanding heads bases records root bound → IsInLevels tree.levels p → head ≡ get_or heads p head → IsSound (slot_of_word bases records head)
sound_at heads bases records root next bound staged tree p head is t on read =
    let lawful : AreLevels tree.slots root tree.levels = subst (λ (v : TreeView). AreLevels v.slots root v.levels) is t.lawful in
    let st = (in_row tree.slots on.level _ (row tree.levels on.level) on.in_level.0 p (lawful.rows on.level on.within) on.in_level.1 on.in_level.2).stands in
    subst IsSound (sym st.is ∙ (page_at_head heads bases records root next bound staged tree p head is t on read).slot) st.sound

-- a tree of chains in which its base page took the place of its chain
pub narrowed_on : (heads : List ℕ) (bases : Bases) (records : Records) (root next : ℕ) (staged : Option StageWords) (tree : TreeView) → IsTree heads bases records root next staged → view_of heads bases records root next staged ≡ tree → tree.staged ≡ None → (p head : ℕ) → IsInLevels tree.levels p → head ≡ get_or heads p head →
    (word : ℕ) (new : ChainsView) → IsRebasedAt (record { bases = bases; records = records }) new head word → (heads' : List ℕ) → heads' ≡ set heads p word →
    IsTree heads' new.bases new.records root next staged × IsRebased tree (view_of heads' new.bases new.records root next staged) p
narrowed_on heads bases records root next staged tree t is none p head on read word new made heads' placed =
    let at = page_at_head heads bases records root next _ staged tree p head is t.now on read in
    rebased_on heads bases records root next staged tree p made.page t is none (subst (λ (v : TreeView). p < length v.heads) is at.there) (at.slot ∙ sym made.same)
    heads' new.bases new.records word (made.under ∙ ap (base_under records) (read ∙ get_or_default heads p head 0 at.there)) placed made.bases made.records

leaf_there : (low : KeyBytes) (high : Option KeyBytes) (side : Option ℕ) (b : Body) → level_of b ≡ 0 → IsSoundBody low high side b → body_writes b ≡ [] →
    Live (record { low = low; high = high; side = side; body = b }) ≡ leaf_slot (record { low = low; high = high; side = side; pairs = body_pairs b })
leaf_there low high side (Pairs pairs writes) level sound bare = ap (λ (ws : List WriteView). Live (record { low = low; high = high; side = side; body = Pairs pairs ws })) bare
leaf_there low high side (Children n children) level sound bare = absurd (omega (arith, sound.raised, level))

sorted_of : (low : KeyBytes) (high : Option KeyBytes) (side : Option ℕ) (b : Body) → IsSoundBody low high side b → T (is_sorted key_cmp (body_pairs b))
sorted_of low high side (Pairs pairs writes) sound = sound.page.sorted
sorted_of low high side (Children n children) sound = tt

-- the leaf that a page is without its writes
abbrev leaf_of : Slot → LeafView ValueBytes
leaf_of o = record { low = low_of o; high = high_of o; side = side_of_slot o; pairs = pairs_under o }

-- such a leaf has all that the tree held in its range, and no write over it
module _ (old new : TreeView) (p : ℕ) (rebased : IsRebased old new p) (has : Contains (row old.levels 0) p) (none : old.staged ≡ None) (lawful : AreLevels old.slots old.root old.levels) (distinct : HasDistinctStamps (row_writes old.slots (row old.levels 0))) (bare_now : writes_over (slot_at new.slots p) ≡ []) where
  abbrev slot : Slot
  slot = slot_at old.slots p

  bare : writes_over slot ≡ []
  bare = subst (λ (v : TreeView). writes_over (slot_at v.slots p) ≡ []) rebased.view bare_now

  at : InRow old.slots 0 (row old.levels 0) has.0 p
  at = leaf_in_row old.slots old.root old.levels lawful p has

  values : (key : KeyBytes) → find key_cmp key (pairs_under slot) ≡ value_in_range slot (low_of slot) (high_of slot) key old.next
  values key = by (is_in_range (low_of slot) (high_of slot) key) refl
    where
      by : (b : Bool) → is_in_range (low_of slot) (high_of slot) key ≡ b → find key_cmp key (pairs_under slot) ≡ value_in_range slot (low_of slot) (high_of slot) key old.next
      by true inside =
          let before : is_below_end (high_of slot) key ≡ true = holds _ (right_of _ _ (true_holds _ inside)) in
          let both : (is_in_range (low_of slot) (high_of slot) key && is_below_end (high_of slot) key) ≡ true = ap (λ b. b && is_below_end (high_of slot) key) inside ∙ before in
          sym (quiet (find key_cmp key (pairs_under slot)) (action_at []) old.next (λ s lt. refl))
          ∙ ap (λ (ws : List WriteView). history (base_of slot key) (action_at (writes_to key ws)) old.next) (sym bare)
          ∙ sym (ap (λ b. cond b (value_in slot key old.next) None) both)
      by false out =
          (page_outside old.slots 0 at.low at.high at.side p key at.stands no_key).pairs
          ∙ sym (ap (λ b. cond (b && is_below_end (high_of slot) key) (value_in slot key old.next) None) out)
        where
          different : true ≡ false → ⊥
          different e = cc

          no_key : T (is_in_range at.low at.high key) → ⊥
          no_key inside =
              let low : low_of slot ≡ at.low = ap low_of at.stands.is ∙ at.stands.from_low in
              let high : high_of slot ≡ at.high = high_is old.slots 0 at.low at.high at.side p at.stands in
              different (sym (holds _ (subst (λ (k : KeyBytes). T (is_in_range k (high_of slot) key)) (sym low) (subst (λ (o : Option KeyBytes). T (is_in_range at.low o key)) (sym high) inside))) ∙ out)

  pairs_all : pairs_under slot ≡ pairs_of_range (contents_at old old.next) (low_of slot) (high_of slot)
  pairs_all = pairs_here old old.root lawful p old.next (low_of slot) (high_of slot) (pairs_under slot) distinct has refl refl refl (record {
    sorted = subst (λ (o : Slot). T (is_sorted key_cmp (pairs_under o))) (sym at.stands.is) (sorted_of at.stands.state.low at.stands.state.high at.stands.state.side at.stands.state.body at.stands.sound);
    values = values;
  })

  leaf_is : slot ≡ leaf_slot (leaf_as_of old p old.next)
  leaf_is =
      let s = at.stands.state in
      at.stands.is
      ∙ leaf_there s.low s.high s.side s.body at.stands.at_level at.stands.sound (ap writes_over (sym at.stands.is) ∙ bare)
      ∙ ap (λ (o : Slot). leaf_slot (leaf_of o)) (sym at.stands.is)
      ∙ ap (λ (es : List (KeyBytes × ValueBytes)). leaf_slot (record { low = low_of slot; high = high_of slot; side = side_of old.slots p; pairs = es })) pairs_all

  pub narrowed_is : IsConsolidated old new p
  narrowed_is = record {
    page = ap (λ (v : TreeView). slot_at v.slots p) rebased.view ∙ leaf_is;
    others = λ q other. ap (λ (v : TreeView). slot_at v.slots q) rebased.view;
    contents = ap (λ (v : TreeView). contents_at v v.next) rebased.view;
    plain = rebased.plain;
    heads = ap (λ (v : TreeView). v.heads) rebased.view;
    root = ap (λ (v : TreeView). v.root) rebased.view;
    levels = ap (λ (v : TreeView). v.levels) rebased.view;
    records = ap (λ (v : TreeView). v.records) rebased.view;
    next = ap (λ (v : TreeView). v.next) rebased.view;
    staged = ap (λ (v : TreeView). v.staged) rebased.view ∙ none;
  }
