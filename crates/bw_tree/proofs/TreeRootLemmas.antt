-- A new root leaves a tree that holds the same.
use Rattle.std.proofs.Common.{get_or, ◌≡◌, ℕ, suc, ◌-◌, ◌<◌, ◌≤◌, ◌^◌, true, List, [], ◌∷◌, length, Option, Some, None, refl, sym, ap, ◌∙◌, subst, arith, length-append}
use Rattle.std.proofs.lemmas.List.{length-map}
use Rattle.std.specs.List.{Contains}
use Rattle.std.specs.Ordering.{is_lt}
use Rattle.std.specs.Prelude.{slice_index}
use Rattle.bw_key.specs.Order.{KeyBytes, key_cmp}
use Rattle.bw_page.specs.Inners.{InnerView, IsInner}
use Rattle.bw_page.specs.declared.pages.Page.{Page}
use Rattle.bw_page.specs.declared.pages.Page.TheVariants.{Inner as InnerPage}
use Rattle.bw_level.specs.Changes.{Bases}
use Rattle.bw_chain.specs.Chains.{Records, slot_of_word, slots_of}
use Rattle.bw_level.specs.Laws.{KeepsAll}
use Rattle.bw_level.specs.Levels.{AreLevels, Stands, row, levels_under}
use Rattle.bw_chain.specs.Placing.{put_at}
use Rattle.bw_level.specs.Roots.{IsGrown, IsNeighbour, levels_grown, root_over, two_children}
use Rattle.bw_level.specs.Scans.{high_of}
use Rattle.bw_level.specs.Slots.{Slot, PageState, Free, Live, level_of, side_of_slot, slot_at, slot_level}
use Rattle.bw_chain.specs.Supports.{OwnBases}
use Rattle.bw_chain.proofs.AdditionLemmas.{page_all_end, page_others, page_own, page_there}
use Rattle.bw_level.proofs.LeafRowLemmas.{low_below}
use Rattle.bw_chain.proofs.PlacingLemmas.{length_put}
use Rattle.bw_level.proofs.RootLemmas.{begins_row, levels_grow, row_before, two_sound}
use Rattle.bw_level.proofs.RouteLemmas.{held, row_first}
use Rattle.bw_tree.specs.Identifiers.{IsUnused}
use Rattle.bw_tree.specs.TreeRoots.{HasNewRoot, IsOverRoot}
use Rattle.bw_look.specs.Trees.{ArePlaced, IsStanding, IsTree, StageWords, view_of}
use Rattle.bw_look.specs.View.{StageView, TreeView}
use Rattle.bw_look.proofs.RoutingLemmas.{PageAt, at_head}
use Rattle.bw_tree.proofs.StandingLemmas.{contents_same, placed_added, same_levels as levels_same, standing_kept, word_of_new}

not_free : {s : PageState} → Free ≡ Live s → ⊥
not_free e = cc

-- the root is the first page of the highest level
pub record IsTop (slots : List Slot) (root level : ℕ) : Type 0 where
  pub high : Option KeyBytes
  pub side : Option ℕ
  pub stands : Stands slots level [] high side root

pub top_of : (slots : List Slot) (root : ℕ) (levels : List (List ℕ)) → AreLevels slots root levels → IsTop slots root (length levels - 1)
top_of slots root levels lawful =
    let n = length levels - 1 in
    let first = row_first slots n [] (row levels n) root (lawful.rows n (omega (arith, lawful.some))) lawful.top in
    record { high = first.0; side = first.1.0; stands = first.1.1 }

-- the least key lies before the root's end
pub above_least : (slots : List Slot) (root : ℕ) (levels : List (List ℕ)) (level : ℕ) (high : KeyBytes) (side : ℕ) → AreLevels slots root levels → IsNeighbour (slot_at slots root) level high side → is_lt (key_cmp [] high) ≡ true
above_least slots root levels level high side lawful next =
    let n = length levels - 1 in
    let st = (top_of slots root levels lawful).stands in
    low_below slots n [] high (Some side) root
    (begins_row slots n (row levels n) root st.state high side (lawful.rows n (omega (arith, lawful.some))) lawful.top st.is (ap high_of (sym st.is) ∙ next.ends) (ap side_of_slot (sym st.is) ∙ next.linked)).first

module _ (heads : List ℕ) (bases : Bases) (records : Records) (root next : ℕ) (t : IsStanding heads bases records root next) (inner : InnerView) (over : IsOverRoot (view_of heads bases records root next None) inner) (q : ℕ) (new_one : IsUnused (view_of heads bases records root next None) q) (few : q < 2 ^ 32) where
  abbrev old : TreeView
  old = view_of heads bases records root next None

  abbrev page : Page
  page = InnerPage inner

  abbrev heads' : List ℕ
  heads' = put_at heads q q

  abbrev bases' : Bases
  bases' = put_at bases q (Some page)

  abbrev new : TreeView
  new = view_of heads' bases' records q next None

  st : Stands old.slots (length old.levels - 1) [] (top_of old.slots root old.levels t.lawful).high (top_of old.slots root old.levels t.lawful).side root
  st = (top_of old.slots root old.levels t.lawful).stands

  at_level : over.level ≡ level_of st.state.body
  at_level = sym over.neighbour.at_level ∙ ap slot_level st.is

  grown : IsGrown old.slots new.slots root q
  grown = record {
    was = st.state;
    is = st.is;
    high = over.high;
    ends = ap high_of (sym st.is) ∙ over.neighbour.ends;
    side = over.side;
    linked = ap side_of_slot (sym st.is) ∙ over.neighbour.linked;
    free = new_one.free;
    top =
        page_there heads bases records t.ends t.own q new_one.place few page
        ∙ over.is
        ∙ ap (λ l. Live (root_over (suc l) root over.high over.side)) at_level;
    others = λ r other. page_others heads bases records t.ends t.own q new_one.place few page r other;
  }

  kept : KeepsAll old.slots new.slots q old.levels (levels_grown old.levels q)
  kept = levels_grow old.slots new.slots root old.levels q t.lawful grown

  same_levels : new.levels ≡ levels_grown old.levels q
  same_levels = levels_same heads bases records root next t heads' bases' records q (levels_grown old.levels q) kept

  -- a level stays with its pages under a further one
  placed_new : ArePlaced heads' (levels_grown old.levels q)
  placed_new = placed_added heads (levels_grown old.levels q) q new_one.place few (λ r lt high.
      let on = t.placed r lt high in
      record {
        level = on.level;
        within = omega (arith, on.within, length-append old.levels ((q ∷ []) ∷ []));
        in_level = subst (λ (ps : List ℕ). Contains ps r) (sym (row_before old.levels ((q ∷ []) ∷ []) on.level on.within)) on.in_level;
      })

  pub standing_new : IsStanding heads' bases' records q next
  standing_new = standing_kept heads bases records root next t heads' bases' records q (levels_grown old.levels q) kept
      (page_all_end heads bases records t.ends t.own q new_one.place few page)
      own_new
      t.few_records
      few_now
      (omega (arith, few_now, own_new.count))
      placed_new
    where
      own_new : OwnBases heads' bases' records
      own_new = page_own heads bases records t.ends t.own q new_one.place few page

      few_now : length heads' ≤ 2 ^ 32
      few_now = omega (arith, few, t.few_pages, length_put heads q q new_one.place)

  word_there : slice_index heads' q ≡ q
  word_there = word_of_new heads q new_one.place

  pub root_new : HasNewRoot old new q
  root_new = record {
    grown = grown;
    levels = same_levels;
    contents = contents_same heads bases records root next t heads' bases' records q (levels_grown old.levels q) kept;
    unused = new_one;
    heads = ap (put_at heads q) (sym word_there);
    plain = omega (arith, few, word_there);
    root = refl;
    records = refl;
    next = refl;
    staged = refl;
  }

-- so is a tree that has the new page as its root
module _ (heads : List ℕ) (bases : Bases) (records : Records) (root next : ℕ) (tree : TreeView) (is : view_of heads bases records root next None ≡ tree) (t : IsTree heads bases records root next None) where
  abbrev IsMade : List ℕ → Bases → Records → ℕ → Type 0
  IsMade h b r q = IsTree h b r q next None × HasNewRoot tree (view_of h b r q next None) q

  made_here : (inner : InnerView) → IsOverRoot tree inner → (q : ℕ) → IsUnused tree q → q < 2 ^ 32 → IsMade (put_at heads q q) (put_at bases q (Some (InnerPage inner))) records q
  made_here inner over q new_one few =
      let over_here = subst (λ (v : TreeView). IsOverRoot v inner) (sym is) over in
      let unused_here = subst (λ (v : TreeView). IsUnused v q) (sym is) new_one in (
        record { now = standing_new heads bases records root next t.now inner over_here q unused_here few; stage = tt },
        subst (λ (v : TreeView). HasNewRoot v (view_of (put_at heads q q) (put_at bases q (Some (InnerPage inner))) records q next None) q) is
            (root_new heads bases records root next t.now inner over_here q unused_here few),
      )

  made_on : (inner : InnerView) → IsOverRoot tree inner → (q : ℕ) → IsUnused tree q → q < 2 ^ 32 →
      (hs : List ℕ) (bs : Bases) (rs : Records) → hs ≡ put_at heads q q → bs ≡ put_at bases q (Some (InnerPage inner)) → rs ≡ records → IsMade hs bs rs q
  made_on inner over q new_one few hs bs rs heads_are bases_are records_are =
      subst (λ (r : Records). IsMade hs bs r q) (sym records_are)
      (subst (λ (b : Bases). IsMade hs b records q) (sym bases_are)
      (subst (λ (h : List ℕ). IsMade h (put_at bases q (Some (InnerPage inner))) records q) (sym heads_are)
      (made_here inner over q new_one few)))

unstaged : {s : StageView} → Some s ≡ None → ⊥
unstaged e = cc

pub root_on : (heads : List ℕ) (bases : Bases) (records : Records) (root next : ℕ) (staged : Option StageWords) (tree : TreeView) → view_of heads bases records root next staged ≡ tree → tree.staged ≡ None → IsTree heads bases records root next staged →
    (inner : InnerView) → IsOverRoot tree inner → (q : ℕ) → IsUnused tree q → q < 2 ^ 32 →
    (hs : List ℕ) (bs : Bases) (rs : Records) → hs ≡ put_at heads q q → bs ≡ put_at bases q (Some (InnerPage inner)) → rs ≡ records →
    IsTree hs bs rs q next staged × HasNewRoot tree (view_of hs bs rs q next staged) q
root_on heads bases records root next None tree is none t = made_on heads bases records root next tree is t
root_on heads bases records root next (Some stage) tree is none t = absurd (unstaged (ap (λ (v : TreeView). v.staged) is ∙ none))

-- what is known of the word of the root
pub root_word : (heads : List ℕ) (bases : Bases) (records : Records) (root next : ℕ) (staged : Option StageWords) (tree : TreeView) → view_of heads bases records root next staged ≡ tree → IsTree heads bases records root next staged →
    (word : ℕ) → word ≡ get_or heads root word → PageAt tree heads bases records root word
root_word heads bases records root next staged tree is t word read =
    let slots = slots_of heads bases records in
    let st = (top_of slots root (levels_under slots root) t.now.lawful).stands in
    let within : root < length heads = omega (arith, held slots root (λ free. not_free (sym free ∙ st.is)), length-map heads (slot_of_word bases records)) in
    at_head heads bases records root next _ staged tree root word is t.now within read

-- the page over the root keeps the rules of inner pages
pub over_sound : (heads : List ℕ) (bases : Bases) (records : Records) (root next : ℕ) (staged : Option StageWords) (tree : TreeView) → view_of heads bases records root next staged ≡ tree → IsTree heads bases records root next staged →
    (word : ℕ) → word ≡ get_or heads root word → (below : ℕ) (high : KeyBytes) (side : ℕ) → IsNeighbour (slot_of_word bases records word) below high side →
    (level : ℕ) (low : KeyBytes) (children : List (KeyBytes × ℕ)) → level ≡ suc below → low ≡ [] → children ≡ two_children root high side → IsInner level low None None children
over_sound heads bases records root next staged tree is t word read below high side neighbour level low children level_is low_is children_are =
    let slots = slots_of heads bases records in
    let slot = (root_word heads bases records root next staged (view_of heads bases records root next staged) refl t word read).slot in
    let above = above_least slots root (levels_under slots root) below high side t.now.lawful (subst (λ (o : Slot). IsNeighbour o below high side) (sym slot) neighbour) in
    subst (λ (es : List (KeyBytes × ℕ)). IsInner level low None None es) (sym children_are)
    (subst (λ (k : KeyBytes). IsInner level k None None (two_children root high side)) (sym low_is)
    (subst (λ l. IsInner l [] None None (two_children root high side)) (sym level_is)
    (two_sound below root side high above)))
