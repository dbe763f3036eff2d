-- Leaves that were consolidated take the places of their chains, one after another.
use Rattle.std.proofs.Common.{◌≡◌, ℕ, zero, suc, ◌+◌, ◌-◌, ◌<◌, ◌≤◌, Bool, true, false, cond, nat_eq, ◌==◌, List, [], ◌∷◌, ◌++◌, length, take, drop, set, Option, Some, None, inl, inr, ◌⊎◌, refl, sym, ap, ◌∙◌, subst, arith}
use Rattle.std.specs.Prelude.{slice_get, slice_index}
use Rattle.std.specs.Cmp.{unsigned_Decides}
use Rattle.std.specs.List.Sorted.{IsPermutation}
use Rattle.std.specs.FinMap.{from_entries}
use Rattle.bw_core.specs.World.{one_if, times}
use Rattle.std.specs.List.{AllByRecursion, Contains}
use Rattle.std.proofs.lemmas.Bool.{cases_eq}
use Rattle.std.proofs.lemmas.Bool.Decides.{nat_tests}
use Rattle.std.proofs.lemmas.Option.{slice_get-get_or}
use Rattle.std.proofs.lemmas.List.{ext_get_or, get_or_default, get_or-set_other, get_or-set_same, length-map, length-set, set-set, set_comm}
use Rattle.bw_key.specs.Order.{KeyBytes}
use Rattle.bw_model.specs.Contents.{Contents, pairs_of_range}
use Rattle.bw_model.specs.Values.{ValueBytes}
use Rattle.bw_delta.specs.Arenas.{deltas_of, links_of}
use Rattle.bw_delta.specs.ContentsAsOf.{contents_as_of, then_written, write_at}
use Rattle.bw_delta.specs.Writes.{WriteView}
use Rattle.bw_delta.proofs.Stagings.{AreBelow}
use Rattle.bw_page.specs.Leaves.{LeafView}
use Rattle.bw_page.specs.declared.pages.Page.{Page}
use Rattle.bw_page.specs.declared.pages.Page.TheVariants.{Leaf as LeafPage, Inner as InnerPage, Gone as GonePage}
use Rattle.bw_level.specs.Before.{low_of}
use Rattle.bw_delta.specs.declared.deltas.Delta.{Delta}
use Rattle.bw_delta.specs.declared.deltas.Delta.TheVariants.{Put, Split, Absorb, Removed, AddChild, DropChild}
use Rattle.bw_level.specs.Changes.{Bases, based, body_below, body_with_child, body_written, change}
use Rattle.bw_level.specs.Levels.{IsHome, row, levels_under}
use Rattle.bw_level.specs.Reading.{row_pairs, row_writes, writes_over}
use Rattle.bw_level.specs.Turns.{slot_without_writes}
use Rattle.bw_level.specs.Scans.{high_of}
use Rattle.bw_level.specs.Slots.{Slot, Body, Pairs, Children, Free, Gone, Live, is_leaf, side_of_slot, slot_at}
use Rattle.bw_level.specs.Walk.{walked}
use Rattle.bw_chain.specs.Chains.{Records, changed, deltas_at, link_of, slot_of_word, slots_of}
use Rattle.bw_chain.specs.Records.{put_records, writes_in}
use Rattle.bw_chain.specs.Supports.{IsLeafAt, base_under}
use Rattle.bw_chain.proofs.GrowthLemmas.{Extends, append_extends}
use Rattle.bw_level.proofs.HomeLemmas.{one_home}
use Rattle.bw_level.proofs.StepLemmas.{home_there}
use Rattle.bw_look.specs.Folding.{put_each, put_leaves, put_own_words}
use Rattle.bw_tree.specs.Making.{leaf_slot}
use Rattle.bw_look.specs.PageStates.{leaf_as_of}
use Rattle.bw_tree.specs.Stages.{IsPosted, writes_with}
use Rattle.bw_look.specs.Words.{bases_before, put_words, words_before}
use Rattle.bw_tree.specs.PageWords.{IsPostedStageOn}
use Rattle.bw_look.specs.declared.words_before.WordsBefore.{WordsBefore}
use Rattle.bw_tree.specs.Beside.{AreFolded, IsAdoptedBeside, with_own_words}
use Rattle.bw_look.specs.Trees.{IsStanding, IsTree, StageWords, end_of, stage_of, view_of}
use Rattle.bw_look.specs.View.{TreeView, contents_at, contents_with}
use Rattle.bw_look.specs.declared.folded.Folded.{Folded}
use Rattle.bw_tree.proofs.AdoptedOnLemmas.{AreFit, posted_fit}
use Rattle.bw_tree.proofs.AdoptedLemmas.{Adoption, adoption_over}
use Rattle.bw_look.proofs.LeafScanLemmas.{leaf_at, leaf_held}
use Rattle.bw_tree.proofs.SwappedWords.{posted_on_all}
use Rattle.bw_tree.proofs.StageLemmas.{stands_on}
use Rattle.bw_look.proofs.StagedLemmas.{take_length, writes_staged}
use Rattle.bw_tree.proofs.ConsolidationLemmas.{at_p, contents_new, home_was, others_new, page_new, same_levels, standing_new, within}

abbrev slot_of_leaf : Folded → Slot
slot_of_leaf f = leaf_slot f.leaf

-- these slots have the same range and right neighbour
abbrev AreAsWide : Slot → Slot → Type 0
AreAsWide new old = (low_of new ≡ low_of old) × (high_of new ≡ high_of old) × (side_of_slot new ≡ side_of_slot old)

module _ (records : Records) (root next : ℕ) where
  abbrev seen : List ℕ → Bases → TreeView
  seen heads bases = view_of heads bases records root next None

  -- a tree with the leaves in the places of their chains
  pub record IsFoldedFrom (heads : List ℕ) (bases : Bases) (fs : List Folded) (heads' : List ℕ) (bases' : Bases) : Type 0 where
    pub standing : IsStanding heads' bases' records root next
    pub slots : slots_of heads' bases' records ≡ put_each slot_of_leaf (slots_of heads bases records) fs
    pub levels : (seen heads' bases').levels ≡ (seen heads bases).levels
    pub contents : contents_at (seen heads' bases') next ≡ contents_at (seen heads bases) next
    pub wide : (q : ℕ) → AreAsWide (slot_at (slots_of heads' bases' records) q) (slot_at (slots_of heads bases records) q)
    pub home : (key : KeyBytes) (q : ℕ) → IsHome (slots_of heads' bases' records) (seen heads' bases').levels key q → IsHome (slots_of heads bases records) (seen heads bases).levels key q

  home_still : (heads : List ℕ) (bases : Bases) (fs : List Folded) (heads' : List ℕ) (bases' : Bases) → IsStanding heads bases records root next → IsFoldedFrom heads bases fs heads' bases' → (key : KeyBytes) (q : ℕ) → IsHome (slots_of heads bases records) (seen heads bases).levels key q → IsHome (slots_of heads' bases' records) (seen heads' bases').levels key q
  home_still heads bases fs heads' bases' t to key q h =
      let new : TreeView = seen heads' bases' in
      let there = home_there new.slots root new.levels to.standing.lawful 0 key to.standing.lawful.some in
      let same : there.0 ≡ q = one_home (slots_of heads bases records) root (seen heads bases).levels t.lawful key there.0 q (to.home key there.0 there.1) h in
      subst (IsHome new.slots new.levels key) same there.1

  folded_none : (heads : List ℕ) (bases : Bases) → IsStanding heads bases records root next → IsFoldedFrom heads bases [] heads bases
  folded_none heads bases t = record { standing = t; slots = refl; levels = refl; contents = refl; wide = λ q. (refl, refl, refl); home = λ key q h. h }

  module _ (heads : List ℕ) (bases : Bases) (t : IsStanding heads bases records root next) (f : Folded) (has : Contains (row (seen heads bases).levels 0) f.page) (is : f.leaf ≡ leaf_as_of (seen heads bases) f.page next) where
    abbrev old : TreeView
    old = seen heads bases

    abbrev Is : ℕ → LeafView ValueBytes → Type 0
    Is base leaf = IsFoldedFrom heads bases (f ∷ []) (set heads f.page base) (set bases base (Some (LeafPage leaf)))

    by_chain : Is (base_under records (slice_index heads f.page)) (leaf_as_of old f.page next)
    by_chain =
        let base = base_under records (slice_index heads f.page) in
        let new : TreeView = seen (set heads f.page base) (set bases base (Some (LeafPage (leaf_as_of old f.page next)))) in
        let here : slot_at new.slots f.page ≡ leaf_slot (leaf_as_of old f.page next) = page_new heads bases records root next t f.page has in
        let others : (q : ℕ) → (q ≡ f.page → ⊥) → slot_at new.slots q ≡ slot_at old.slots q = others_new heads bases records root next t f.page has in
        let in_list : f.page < length old.slots = omega (arith, within heads bases records root next t f.page has, length-map heads (slot_of_word bases records)) in
        let same : new.levels ≡ old.levels = same_levels heads bases records root next t f.page has in
        record {
          standing = standing_new heads bases records root next t f.page has;
          slots =
              ext_get_or Free new.slots (set old.slots f.page (slot_of_leaf f))
              (length-map (set heads f.page base) (slot_of_word (set bases base (Some (LeafPage (leaf_as_of old f.page next)))) records) ∙ length-set heads f.page base ∙ sym (length-map heads (slot_of_word bases records)) ∙ sym (length-set old.slots f.page (slot_of_leaf f)))
              (λ q lt. elim (cases_eq q f.page) [
                | inl e ↦ ap (slot_at new.slots) e ∙ here ∙ ap leaf_slot (sym is) ∙ sym (ap (slot_at (set old.slots f.page (slot_of_leaf f))) e ∙ get_or-set_same old.slots f.page (slot_of_leaf f) Free in_list)
                | inr other ↦ others q other ∙ sym (get_or-set_other old.slots f.page q (slot_of_leaf f) Free other)
              ]);
          levels = same;
          contents = contents_new heads bases records root next t f.page has;
          wide = λ q. elim (cases_eq q f.page) [
            | inl e ↦ subst (λ r. AreAsWide (slot_at new.slots r) (slot_at old.slots r)) (sym e) (subst (λ o. AreAsWide o (slot_at old.slots f.page)) (sym here) (refl, refl, refl))
            | inr other ↦ subst (λ o. AreAsWide o (slot_at old.slots q)) (sym (others q other)) (refl, refl, refl)
          ];
          home = λ key q h. home_was heads bases records root next t f.page has key q (subst (λ l. IsHome new.slots l key q) same h);
        }

    pub folded_one : Is f.page f.leaf
    folded_one =
        subst (λ base. Is base f.leaf) (t.own.number f.page (slice_index heads f.page) (at_p heads bases records root next t f.page has))
        (subst (Is (base_under records (slice_index heads f.page))) (sym is) by_chain)

  folded_more : (heads : List ℕ) (bases : Bases) (f : Folded) (fs : List Folded) (heads' : List ℕ) (bases' : Bases) → IsFoldedFrom heads bases (f ∷ []) (set heads f.page f.page) (set bases f.page (Some (LeafPage f.leaf))) →
      IsFoldedFrom (set heads f.page f.page) (set bases f.page (Some (LeafPage f.leaf))) fs heads' bases' → IsFoldedFrom heads bases (f ∷ fs) heads' bases'
  folded_more heads bases f fs heads' bases' one rest = record {
    standing = rest.standing;
    slots = rest.slots ∙ ap (λ s. put_each slot_of_leaf s fs) one.slots;
    levels = rest.levels ∙ one.levels;
    contents = rest.contents ∙ one.contents;
    wide = λ q. ((rest.wide q).0 ∙ (one.wide q).0, (rest.wide q).1 ∙ (one.wide q).1, (rest.wide q).2 ∙ (one.wide q).2);
    home = λ key q h. one.home key q (rest.home key q h);
  }

  abbrev leaf_with : Contents ValueBytes → KeyBytes → Option KeyBytes → Option ℕ → LeafView ValueBytes
  leaf_with m low high side = record { low = low; high = high; side = side; pairs = pairs_of_range m low high }

  -- a leaf that wasn't put yet is what its chain makes of it still
  still_folded : (heads : List ℕ) (bases : Bases) (xs : List Folded) (heads' : List ℕ) (bases' : Bases) → IsFoldedFrom heads bases xs heads' bases' → (fs : List Folded) → AreFolded (seen heads bases) fs → AreFolded (seen heads' bases') fs
  still_folded heads bases xs heads' bases' to [] are = tt
  still_folded heads bases xs heads' bases' to (f ∷ fs) are = (
    (subst (λ (l : List (List ℕ)). Contains (row l 0) f.page) (sym to.levels) are.0.0, are.0.1 ∙ sym same),
    still_folded heads bases xs heads' bases' to fs are.1,
  )
    where
      old : Slot
      old = slot_at (slots_of heads bases records) f.page

      new : Slot
      new = slot_at (slots_of heads' bases' records) f.page

      same : leaf_as_of (seen heads' bases') f.page next ≡ leaf_as_of (seen heads bases) f.page next
      same =
          ap (λ m. leaf_with m (low_of new) (high_of new) (side_of_slot new)) to.contents
          ∙ ap (λ k. leaf_with (contents_at (seen heads bases) next) k (high_of new) (side_of_slot new)) (to.wide f.page).0
          ∙ ap (λ k. leaf_with (contents_at (seen heads bases) next) (low_of old) k (side_of_slot new)) (to.wide f.page).1
          ∙ ap (leaf_with (contents_at (seen heads bases) next) (low_of old) (high_of old)) (to.wide f.page).2

  folded_all : (fs : List Folded) (heads : List ℕ) (bases : Bases) → IsStanding heads bases records root next → AreFolded (seen heads bases) fs → IsFoldedFrom heads bases fs (put_own_words heads fs) (put_leaves bases fs)
  folded_all [] heads bases t are = folded_none heads bases t
  folded_all (f ∷ fs) heads bases t are =
      let one = folded_one heads bases t f are.0.0 are.0.1 in
      let heads1 : List ℕ = set heads f.page f.page in
      let bases1 : Bases = set bases f.page (Some (LeafPage f.leaf)) in
      folded_more heads bases f fs (put_own_words heads1 fs) (put_leaves bases1 fs) one
      (folded_all fs heads1 bases1 one.standing (still_folded heads bases (f ∷ []) heads1 bases1 one fs are.1))

-- What a map is as of a stamp follows from what it was as of an earlier one, and the writes from there on.
same_write : (ws old : List WriteView) (n t : ℕ) → AreBelow n old → n ≤ t → write_at (ws ++ old) t ≡ write_at ws t
same_write [] [] n t below le = refl
same_write [] (w ∷ old) n t below le =
    let past : nat_eq w.stamp t ≡ false = grind (arith, nat_tests, below.0, le) in
    ap (λ b. cond b (Some w) (write_at old t)) past ∙ same_write [] old n t below.1 le
same_write (w ∷ ws) old n t below le = ap (λ o. cond (nat_eq w.stamp t) (Some w) o) (same_write ws old n t below le)

-- writes from a stamp on change nothing below it
none_yet : (low : ℕ) (ws old : List WriteView) (t : ℕ) → AllByRecursion (λ w. low ≤ w.stamp) ws → t < low → write_at (ws ++ old) t ≡ write_at old t
none_yet low [] old t from lt = refl
none_yet low (w ∷ ws) old t from lt =
    let later : nat_eq w.stamp t ≡ false = grind (arith, nat_tests, from.0, lt) in
    ap (λ b. cond b (Some w) (write_at (ws ++ old) t)) later ∙ none_yet low ws old t from.1 lt

same_before : (m : Contents ValueBytes) (xs ys : List WriteView) (n : ℕ) → ((t : ℕ) → t < n → write_at xs t ≡ write_at ys t) → contents_as_of m xs n ≡ contents_as_of m ys n
unfolding contents_as_of
same_before m xs ys zero same = refl
same_before m xs ys (suc n) same =
    ap (λ w. then_written w (contents_as_of m xs n)) (same n (omega arith))
    ∙ ap (then_written (write_at ys n)) (same_before m xs ys n (λ t lt. same t (omega (arith, lt))))

same_behind : (m o : Contents ValueBytes) (xs ys : List WriteView) (n k : ℕ) → ((t : ℕ) → n ≤ t → write_at xs t ≡ write_at ys t) → contents_as_of m xs n ≡ contents_as_of o ys n → contents_as_of m xs (k + n) ≡ contents_as_of o ys (k + n)
unfolding contents_as_of
same_behind m o xs ys n zero same at = let on : n ≡ 0 + n = omega arith in subst (λ (t : ℕ). contents_as_of m xs t ≡ contents_as_of o ys t) on at
same_behind m o xs ys n (suc k) same at =
    let on : suc (k + n) ≡ suc k + n = omega arith in
    subst (λ (t : ℕ). contents_as_of m xs t ≡ contents_as_of o ys t) on (ap (λ w. then_written w (contents_as_of m xs (k + n))) (same (k + n) (omega arith)) ∙ ap (then_written (write_at ys (k + n))) (same_behind m o xs ys n k same at))

-- the same writes over two maps that were one as of the first of their stamps
pub same_from : (m o : Contents ValueBytes) (ws old new : List WriteView) (n stamp : ℕ) → AllByRecursion (λ w. n ≤ w.stamp) ws → AreBelow n old → AreBelow n new → contents_as_of m old n ≡ contents_as_of o new n → n ≤ stamp → contents_as_of m (ws ++ old) stamp ≡ contents_as_of o (ws ++ new) stamp
same_from m o ws old new n stamp from old_below new_below at le =
    subst (λ (k : ℕ). contents_as_of m (ws ++ old) k ≡ contents_as_of o (ws ++ new) k) (omega (arith, le))
    (same_behind m o (ws ++ old) (ws ++ new) n (stamp - n) (λ t above. same_write ws old n t old_below above ∙ sym (same_write ws new n t new_below above))
    (same_before m (ws ++ old) old n (λ t lt. none_yet n ws old t from lt) ∙ at ∙ sym (same_before o (ws ++ new) new n (λ t lt. none_yet n ws new t from lt))))

module _ (heads : List ℕ) (bases : Bases) (records : Records) (root next n ops : ℕ) (fs : List Folded) (heads' links : List ℕ) where
  abbrev waiting : StageWords
  waiting = record { records = n; ops = ops; before = None }

  abbrev tree : TreeView
  tree = view_of heads bases records root next (Some waiting)

  abbrev heads1 : List ℕ
  heads1 = put_own_words heads fs

  abbrev bases1 : Bases
  bases1 = put_leaves bases fs

  -- the tree with the leaves in the places of their chains, and with the batch still waiting
  abbrev between : TreeView
  between = view_of heads1 bases1 records root next (Some waiting)

  abbrev earlier : Records
  earlier = take n records

  module _ (t : IsTree heads bases records root next (Some waiting)) (are : AreFolded tree fs) where
    longer : Extends earlier records
    longer = subst (Extends earlier) (sym t.stage.parts) (append_extends earlier (put_records t.stage.writes t.stage.links))

    count : length earlier ≡ n
    count = take_length n records t.stage.earlier

    on : (hs : List ℕ) (bs : Bases) → IsStanding hs bs earlier root next → (slots_of hs bs records ≡ slots_of hs bs earlier) × IsStanding hs bs records root (next + ops)
    on hs bs standing = stands_on hs bs earlier records root next (next + ops) standing longer (omega (arith, count, t.stage.earlier)) (omega arith) t.now.fits t.now.few_records

    before : slots_of heads bases records ≡ slots_of heads bases earlier
    before = (on heads bases t.stage.before).0

    abbrev lists : List Slot → TreeView
    lists slots = record { slots = slots; root = root; levels = levels_under slots root; heads = heads; records = n; next = next; staged = None }

    folded : IsFoldedFrom earlier root next heads bases fs heads1 bases1
    folded = folded_all earlier root next fs heads bases t.stage.before (subst (λ (s : List Slot). AreFolded (lists s) fs) before are)

    after : slots_of heads1 bases1 records ≡ slots_of heads1 bases1 earlier
    after = (on heads1 bases1 folded.standing).0

    pub between_tree : IsTree heads1 bases1 records root next (Some waiting)
    between_tree = record {
      now = (on heads1 bases1 folded.standing).1;
      stage = record {
        writes = t.stage.writes;
        links = t.stage.links;
        parts = t.stage.parts;
        linked = t.stage.linked;
        earlier = t.stage.earlier;
        stamped = t.stage.stamped;
        below = t.stage.below;
        before = folded.standing;
        same = sym (ap (λ (s : List Slot). levels_under s root) after);
      };
    }

    pub between_slots : between.slots ≡ put_each slot_of_leaf tree.slots fs
    between_slots = after ∙ folded.slots ∙ sym (ap (λ (s : List Slot). put_each slot_of_leaf s fs) before)

    pub between_levels : between.levels ≡ tree.levels
    between_levels = ap (λ (s : List Slot). levels_under s root) after ∙ folded.levels ∙ sym (ap (λ (s : List Slot). levels_under s root) before)

    abbrev leaves : List Slot → List ℕ
    leaves slots = row (levels_under slots root) 0

    abbrev waits : List WriteView
    waits = writes_in (drop n records)

    abbrev read : ℕ → List Slot → Contents ValueBytes
    read stamp slots = contents_as_of (from_entries (row_pairs slots (leaves slots))) (waits ++ row_writes slots (leaves slots)) stamp

    -- from the batch's first stamp on it holds the same
    pub between_contents : (stamp : ℕ) → next ≤ stamp → contents_with between stamp ≡ contents_with tree stamp
    between_contents stamp le =
        let new = slots_of heads1 bases1 earlier in
        let old = slots_of heads bases earlier in
        ap (read stamp) after
        ∙ same_from (from_entries (row_pairs new (leaves new))) (from_entries (row_pairs old (leaves old))) waits (row_writes new (leaves new)) (row_writes old (leaves old)) next stamp
        (subst (AllByRecursion (λ w. next ≤ w.stamp)) (sym (writes_staged heads bases records root next waiting t.stage)) t.stage.stamped.from)
        folded.standing.past t.stage.before.past folded.contents le
        ∙ sym (ap (read stamp) before)

    module _ (posted : IsPosted (with_own_words tree fs) (stage_of heads bases records root waiting) heads' links) where
      between_posted : IsPosted between (stage_of heads1 bases1 records root waiting) heads' links
      between_posted = record {
        pages = posted.pages;
        records = posted.records;
        chains = λ p lt.
            let c = posted.chains p lt in
            record {
              chain = c.chain;
              way = c.way;
              once = c.once;
              here = λ r w at home. c.here r w at (home_back w.key p home);
              only = λ r w at some. home_on w.key p (c.only r w at some);
            };
      }
        where
          home_back : (key : KeyBytes) (p : ℕ) → IsHome between.slots between.levels key p → IsHome tree.slots tree.levels key p
          home_back key p h =
              subst (λ (s : List Slot). IsHome s (levels_under s root) key p) (sym before)
              (folded.home key p (subst (λ (s : List Slot). IsHome s (levels_under s root) key p) after h))

          home_on : (key : KeyBytes) (p : ℕ) → IsHome tree.slots tree.levels key p → IsHome between.slots between.levels key p
          home_on key p h =
              subst (λ (s : List Slot). IsHome s (levels_under s root) key p) (sym after)
              (home_still earlier root next heads bases fs heads1 bases1 t.stage.before folded key p (subst (λ (s : List Slot). IsHome s (levels_under s root) key p) before h))

      pub adoption_beside : Adoption heads heads' bases bases1 records root next between (Some (stage_of heads bases records root waiting)) waiting links
      adoption_beside = adoption_over heads1 heads' heads bases1 bases records root next n ops links between_tree between_posted t.stage.before (sym folded.levels)

-- words that are put over others
put_over_own : (heads pages given : List ℕ) (p x : ℕ) → 0 < times p pages → length given ≡ length pages → put_words (set heads p x) pages given ≡ put_words heads pages given
put_over_own heads [] given p x some size = absurd (omega (arith, some))
put_over_own heads (q ∷ pages) [] p x some size = absurd (omega (arith, size))
put_over_own heads (q ∷ pages) (w ∷ given) p x some size =
    by (cases_eq q p) (λ none. put_over_own (set heads q w) pages given p x (omega (arith, some, none)) (omega (arith, size)))
  where
    not_equal : (a b : ℕ) → (a ≡ b → ⊥) → (a == b) ≡ false
    not_equal a b apart = is (a == b) refl
      where
        is : (r : Bool) → (a == b) ≡ r → (a == b) ≡ false
        is true e = absurd (apart ((unsigned_Decides a b).0 e))
        is false e = e

    by : (q ≡ p) ⊎ (q ≡ p → ⊥) → (one_if (q == p) ≡ 0 → put_words (set (set heads q w) p x) pages given ≡ put_words (set heads q w) pages given) → put_words (set (set heads p x) q w) pages given ≡ put_words (set heads q w) pages given
    by (inl e) rest = ap (λ l. put_words l pages given) (ap (λ r. set (set heads r x) q w) (sym e) ∙ set-set heads q x w)
    by (inr other) rest = ap (λ l. put_words l pages given) (sym (set_comm heads q p w x other)) ∙ rest (ap one_if (not_equal q p other))

put_over_all : (fs : List Folded) (heads pages given : List ℕ) → AllByRecursion (λ f. 0 < times f.page pages) fs → length given ≡ length pages → put_words (put_own_words heads fs) pages given ≡ put_words heads pages given
put_over_all [] heads pages given listed size = refl
put_over_all (f ∷ fs) heads pages given listed size = put_over_all fs (set heads f.page f.page) pages given listed.1 size ∙ put_over_own heads pages given f.page f.page listed.0 size

length_each : {X : Type 0} (of : Folded → X) (xs : List X) (fs : List Folded) → length (put_each of xs fs) ≡ length xs
length_each of xs [] = refl
length_each of xs (f ∷ fs) = length_each of (set xs f.page (of f)) fs ∙ length-set xs f.page (of f)

-- What is asked of a batch beside whose posting leaves were consolidated.
pub record IsGiven (heads : List ℕ) (bases : Bases) (records : Records) (root next : ℕ) (staged : Option StageWords) (tree : TreeView) (s : StageWords) (fs : List Folded) (pages given links : List ℕ) : Type 0 where
  pub stands : IsTree heads bases records root next staged
  pub view : view_of heads bases records root next staged ≡ tree
  pub waits : Some s ≡ staged
  pub folded : AreFolded tree fs
  pub listed : AllByRecursion (λ f. 0 < times f.page pages) fs
  pub posted : IsPostedStageOn (with_own_words tree fs) tree.staged pages given links

pub given_fit : (heads : List ℕ) (bases : Bases) (records : Records) (root next : ℕ) (staged : Option StageWords) (tree : TreeView) (s : StageWords) (fs : List Folded) (pages given links : List ℕ) → IsGiven heads bases records root next staged tree s fs pages given links → AreFit (length heads) pages given
given_fit heads bases records root next staged tree s fs pages given links g =
    let same : length (with_own_words tree fs).heads ≡ length heads = length_each (λ (f : Folded). f.page) tree.heads fs ∙ ap (λ (v : TreeView). length v.heads) (sym g.view) in
    subst (λ (k : ℕ). AreFit k pages given) same (posted_fit (with_own_words tree fs) tree.staged pages given links g.posted)

-- What its adoption does, from the words and base pages that it writes.
pub record IsReady (heads heads' : List ℕ) (bases bases1 : Bases) (records : Records) (root next : ℕ) (tree : TreeView) (s : StageWords) (fs : List Folded) (links : List ℕ) : Type 0 where
  pub fits : s.records + length links ≤ length records
  pub all : (past : WordsBefore) → words_before (Some past) heads' ≡ heads → bases_before (Some past) bases1 ≡ bases → (new : Records) → deltas_of new ≡ deltas_of records → links_of new ≡ take s.records (links_of records) ++ links ++ drop (s.records + length links) (links_of records) →
      let staged : Option StageWords = Some (record { records = s.records; ops = s.ops; before = Some past }) in IsTree heads' bases1 new root next staged × IsAdoptedBeside tree (view_of heads' bases1 new root next staged) fs heads'

ready_at : (heads : List ℕ) (bases : Bases) (records : Records) (root next n ops : ℕ) (before : Option WordsBefore) (fs : List Folded) (pages given links : List ℕ) → let s : StageWords = record { records = n; ops = ops; before = before } in let tree = view_of heads bases records root next (Some s) in
    IsTree heads bases records root next (Some s) → AreFolded tree fs → AllByRecursion (λ f. 0 < times f.page pages) fs → IsPostedStageOn (with_own_words tree fs) tree.staged pages given links →
    IsReady heads (put_words heads pages given) bases (put_leaves bases fs) records root next tree s fs links
ready_at heads bases records root next n ops (Some b) fs pages given links t are listed posted = absurd (different posted.0)
  where
    different : true ≡ false → ⊥
    different e = cc
ready_at heads bases records root next n ops None fs pages given links t are listed posted =
    let s : StageWords = record { records = n; ops = ops; before = None } in
    let old : TreeView = view_of heads bases records root next (Some s) in
    let between : TreeView = view_of (put_own_words heads fs) (put_leaves bases fs) records root next (Some s) in
    let heads' : List ℕ = put_words heads pages given in
    let bases1 : Bases = put_leaves bases fs in
    let on_all = subst (λ (h : List ℕ). IsPosted (with_own_words old fs) (stage_of heads bases records root s) h links) (put_over_all fs heads pages given listed posted.1.count) (posted_on_all (with_own_words old fs) (stage_of heads bases records root s) pages given links posted.1) in
    let ad = adoption_beside heads bases records root next n ops fs heads' links t are on_all in
    let levels = between_levels heads bases records root next n ops fs heads' links t are in
    let slots = between_slots heads bases records root next n ops fs heads' links t are in
    record {
      fits = ad.fits;
      all = λ past back back_bases new deltas links_are.
          let a = ad.all past back back_bases new deltas links_are in (
            a.tree_is,
            record {
              contents = λ stamp le. a.contents stamp ∙ between_contents heads bases records root next n ops fs heads' links t are stamp le;
              pages = λ p. a.pages p ∙ ap (λ (l : List Slot). slot_without_writes (slot_at l p)) slots;
              writes = λ p has.
                  subst (λ (l : List Slot). IsPermutation (writes_with (record old { slots = l }) p) (writes_over (slot_at (slots_of heads' bases1 new) p))) slots
                  (a.writes p (subst (λ (l : List (List ℕ)). Contains (row l 0) p) (sym levels) has));
              root = refl;
              levels = a.levels ∙ levels;
              heads = refl;
              records = sym (length-map new (λ e. e.0)) ∙ ap length deltas ∙ length-map records (λ e. e.0);
              next = refl;
              staged = a.staged_is;
            },
          );
    }

pub ready : (heads : List ℕ) (bases : Bases) (records : Records) (root next : ℕ) (staged : Option StageWords) (tree : TreeView) (s : StageWords) (fs : List Folded) (pages given links : List ℕ) → IsGiven heads bases records root next staged tree s fs pages given links → IsReady heads (put_words heads pages given) bases (put_leaves bases fs) records root next tree s fs links
ready heads bases records root next staged tree s fs pages given links g =
    let is : view_of heads bases records root next (Some s) ≡ tree = ap (view_of heads bases records root next) g.waits ∙ g.view in
    subst (λ (v : TreeView). IsReady heads (put_words heads pages given) bases (put_leaves bases fs) records root next v s fs links) is
    (ready_at heads bases records root next s.records s.ops s.before fs pages given links (subst (IsTree heads bases records root next) (sym g.waits) g.stands)
    (subst (λ (v : TreeView). AreFolded v fs) (sym is) g.folded) g.listed
    (subst (λ (v : TreeView). IsPostedStageOn (with_own_words v fs) v.staged pages given links) (sym is) g.posted))

-- and so of those that were written
pub ready_with : (heads heads' : List ℕ) (bases bases1 : Bases) (records : Records) (root next : ℕ) (tree : TreeView) (s : StageWords) (fs : List Folded) (links : List ℕ) → IsReady heads heads' bases bases1 records root next tree s fs links →
    (words : List ℕ) (bases' : Bases) (new : Records) (staged : Option StageWords) (given : List ℕ) (past : WordsBefore) → words ≡ heads' → bases' ≡ bases1 → given ≡ links → deltas_of new ≡ deltas_of records →
    links_of new ≡ take s.records (links_of records) ++ given ++ drop (s.records + length given) (links_of records) → words_before (Some past) words ≡ heads → bases_before (Some past) bases' ≡ bases → staged ≡ Some (record { records = s.records; ops = s.ops; before = Some past }) →
    IsTree words bases' new root next staged × IsAdoptedBeside tree (view_of words bases' new root next staged) fs heads'
ready_with heads heads' bases bases1 records root next tree s fs links r words bases' new staged given past same_words same_bases same_links deltas linked back back_bases staged_is =
    let links_are = subst (λ (l : List ℕ). links_of new ≡ take s.records (links_of records) ++ l ++ drop (s.records + length l) (links_of records)) same_links linked in
    subst (λ (h : List ℕ). IsTree h bases' new root next staged × IsAdoptedBeside tree (view_of h bases' new root next staged) fs heads') (sym same_words)
    (subst (λ (b : Bases). IsTree heads' b new root next staged × IsAdoptedBeside tree (view_of heads' b new root next staged) fs heads') (sym same_bases)
    (subst (λ (o : Option StageWords). IsTree heads' bases1 new root next o × IsAdoptedBeside tree (view_of heads' bases1 new root next o) fs heads') (sym staged_is)
    (r.all past (ap (words_before (Some past)) (sym same_words) ∙ back) (ap (bases_before (Some past)) (sym same_bases) ∙ back_bases) new deltas links_are)))

-- the leaves that are put were leaves before
is_leaf_still : (bases : Bases) (d : Delta) (slot : Slot) → is_leaf (change bases d slot) ≡ is_leaf slot
is_leaf_still bases (Put w) (Live s) = by s.body
  where
    by : (b : Body) → is_leaf (Live (record s { body = body_written w b })) ≡ is_leaf (Live (record s { body = b }))
    by (Pairs pairs writes) = refl
    by (Children level children) = refl
is_leaf_still bases (Put w) (Gone l) = refl
is_leaf_still bases (Put w) Free = refl
is_leaf_still bases (Split k to) (Live s) = by s.body
  where
    by : (b : Body) → is_leaf (Live (record s { high = Some k; side = Some to; body = body_below k b })) ≡ is_leaf (Live (record s { body = b }))
    by (Pairs pairs writes) = refl
    by (Children level children) = refl
is_leaf_still bases (Split k to) (Gone l) = refl
is_leaf_still bases (Split k to) Free = refl
is_leaf_still bases (Absorb base side) slot = refl
is_leaf_still bases (Removed left) slot = refl
is_leaf_still bases (AddChild k child) (Live s) = by s.body
  where
    by : (b : Body) → is_leaf (Live (record s { body = body_with_child k child b })) ≡ is_leaf (Live (record s { body = b }))
    by (Pairs pairs writes) = refl
    by (Children level children) = refl
is_leaf_still bases (AddChild k child) (Gone l) = refl
is_leaf_still bases (AddChild k child) Free = refl
is_leaf_still bases (DropChild k) slot = refl

is_leaf_under : (bases : Bases) (ds : List Delta) (slot : Slot) → is_leaf (changed bases ds slot) ≡ is_leaf slot
is_leaf_under bases [] slot = refl
is_leaf_under bases (d ∷ ds) slot = is_leaf_still bases d (changed bases ds slot) ∙ is_leaf_under bases ds slot

leaf_page : (o : Option (Option Page)) → is_leaf (based o) ≡ true → (leaf : LeafView ValueBytes) × (o ≡ Some (Some (LeafPage leaf)))
leaf_page None e = absurd (different e)
  where
    different : false ≡ true → ⊥
    different e = cc
leaf_page (Some None) e = absurd (different e)
  where
    different : false ≡ true → ⊥
    different e = cc
leaf_page (Some (Some (LeafPage l))) e = (l, refl)
leaf_page (Some (Some (InnerPage i))) e = absurd (different e)
  where
    different : false ≡ true → ⊥
    different e = cc
leaf_page (Some (Some (GonePage g))) e = absurd (different e)
  where
    different : false ≡ true → ⊥
    different e = cc

module _ (heads : List ℕ) (bases : Bases) (records : Records) (root next : ℕ) (staged : Option StageWords) (tree : TreeView) (is : view_of heads bases records root next staged ≡ tree) (t : IsTree heads bases records root next staged) where
  leaf_base : (p : ℕ) → Contains (row tree.levels 0) p → IsLeafAt bases p
  leaf_base p has =
      let head = slice_index heads p in
      let lt : p < length heads = leaf_held heads bases records root next (end_of next staged) staged tree is t.now p has in
      let at = leaf_at heads bases records root next (end_of next staged) staged tree is t.now p head has (get_or_default heads p 0 head lt) in
      let base : base_under records head ≡ p = t.now.own.number p head (slice_get-get_or heads p 0 lt) in
      subst (IsLeafAt bases) base (leaf_page (slice_get bases (base_under records head)) (sym (is_leaf_under bases (deltas_at records (walked (link_of records) (length records) head)) (based (slice_get bases (base_under records head)))) ∙ at.leaf))

  pub leaf_bases : (fs : List Folded) → AreFolded tree fs → AllByRecursion (λ f. IsLeafAt bases f.page) fs
  leaf_bases [] are = tt
  leaf_bases (f ∷ fs) are = (leaf_base f.page are.0.0, leaf_bases fs are.1)
