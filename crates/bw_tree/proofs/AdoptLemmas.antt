-- Adopting the words that a board was closed with.
use Rattle.bw_tree.proofs.RowWritesLemmas.{leaf_of, page_has_writes}
use Rattle.bw_level.proofs.RowLemmas.{in_row}
use Rattle.std.proofs.Common.{◌≡◌, ℕ, zero, suc, ◌+◌, ◌<◌, ◌≤◌, ◌^◌, true, T, List, [], ◌∷◌, ◌++◌, length, map, take, drop, Some, None, inl, inr, refl, sym, ap, ◌∙◌, subst, arith, length-append}
use Rattle.std.specs.Prelude.{filter, slice_get, slice_index}
use Rattle.std.specs.List.{Contains, zip}
use Rattle.std.specs.List.Sorted.{IsPermutation}
use Rattle.std.specs.FinMap.{from_entries}
use Rattle.std.proofs.lemmas.Bool.{cases_lt}
use Rattle.std.proofs.lemmas.Bool.Decides.{nat_tests}
use Rattle.std.proofs.lemmas.List.{length-map, map-append}
use Rattle.std.proofs.lemmas.List.Elements.{All-from_recursion, recursion_from_All}
use Rattle.std.proofs.lemmas.List.Sorted.{All-permutation}
use Rattle.std.proofs.lemmas.Option.{slice_get-get_or}
use Rattle.bw_key.specs.Order.{KeyBytes}
use Rattle.bw_model.specs.Contents.{is_in_range}
use Rattle.bw_model.specs.Values.{ValueBytes}
use Rattle.bw_core.specs.World.{Meets, times}
use Rattle.bw_delta.specs.Arenas.{deltas_of, links_of}
use Rattle.bw_delta.specs.Writes.{WriteView}
use Rattle.bw_delta.specs.History.{HasDistinctStamps}
use Rattle.bw_delta.specs.ContentsAsOf.{contents_as_of}
use Rattle.bw_delta.specs.declared.deltas.Delta.{Delta}
use Rattle.bw_delta.specs.declared.deltas.Delta.TheVariants.{Put}
use Rattle.bw_delta.proofs.ContentsAsOf.{same_as_of}
use Rattle.bw_delta.proofs.Filters.{same_filtered}
use Rattle.bw_delta.proofs.Orders.{distinct_permuted}
use Rattle.bw_delta.proofs.Stagings.{AreBelow, below_all}
use Rattle.bw_key.specs.Order.{key_eq}
use Rattle.bw_page.proofs.Truths.{holds, true_holds, left_of, right_of, both_of}
use Rattle.bw_level.specs.Slots.{Slot, PageState, Live, Free, slot_at, has_key, is_leaf}
use Rattle.bw_level.specs.Reading.{writes_over, row_pairs, row_writes}
use Rattle.bw_level.specs.Turns.{slot_without_writes}
use Rattle.bw_level.specs.Levels.{AreLevels, IsHome, row, levels_under}
use Rattle.bw_level.specs.Entries.{AreExact}
use Rattle.bw_level.specs.Changes.{Bases}
use Rattle.bw_chain.specs.Chains.{Records, Ends, floor_word, slot_of_word, slots_of}
use Rattle.bw_level.specs.Searches.{AllStand, IsInLevels}
use Rattle.bw_look.specs.Trees.{ArePlaced, AreStampedFrom, IsStanding}
use Rattle.bw_chain.specs.Records.{put_records}
use Rattle.bw_chain.specs.Supports.{base_under}
use Rattle.bw_tree.proofs.TreeAlikeLemmas.{IsPutOver, AreInside, exact_written, levels_written, pairs_alike, put_bare, stand_written}
use Rattle.bw_chain.proofs.GrowthLemmas.{take_front}
use Rattle.bw_level.proofs.LevelLemmas.{levels_now}
use Rattle.bw_tree.proofs.PlacedLemmas.{named_are, named_pass}
use Rattle.bw_tree.proofs.StampedLemmas.{stamped_over}
use Rattle.bw_tree.proofs.PostedLemmas.{chain_posted, named, put_over}
use Rattle.bw_look.proofs.RoutingLemmas.{slot_past}
use Rattle.bw_look.proofs.StagedLemmas.{read_both}
use Rattle.bw_chain.proofs.ReadingLemmas.{slot_of_head}
use Rattle.bw_tree.proofs.RowWritesLemmas.{row_has_all}

-- The records once they have their links.
paired : (xs : Records) → zip (deltas_of xs) (links_of xs) ≡ xs
paired [] = refl
paired (x ∷ xs) = ap (λ (l : Records). x ∷ l) (paired xs)

zip_both : (a : List Delta) (b : List ℕ) (c : List Delta) (d : List ℕ) → length a ≡ length b → zip (a ++ c) (b ++ d) ≡ zip a b ++ zip c d
zip_both [] [] c d e = refl
zip_both [] (y ∷ b) c d e = absurd (omega (arith, e))
zip_both (x ∷ a) [] c d e = absurd (omega (arith, e))
zip_both (x ∷ a) (y ∷ b) c d e = ap (λ (l : Records). (x, y) ∷ l) (zip_both a b c d (omega (arith, e)))

deltas_put : (ws : List WriteView) (links : List ℕ) → length links ≡ length ws → deltas_of (put_records ws links) ≡ map Put ws
deltas_put [] [] e = refl
deltas_put [] (l ∷ links) e = absurd (omega (arith, e))
deltas_put (w ∷ ws) [] e = absurd (omega (arith, e))
deltas_put (w ∷ ws) (l ∷ links) e = ap (λ (ds : List Delta). Put w ∷ ds) (deltas_put ws links (omega (arith, e)))

links_put : (ws : List WriteView) (links : List ℕ) → length links ≡ length ws → links_of (put_records ws links) ≡ links
links_put [] [] e = refl
links_put [] (l ∷ links) e = absurd (omega (arith, e))
links_put (w ∷ ws) [] e = absurd (omega (arith, e))
links_put (w ∷ ws) (l ∷ links) e = ap (λ (ls : List ℕ). l ∷ ls) (links_put ws links (omega (arith, e)))

drop_all : (k : ℕ) (xs : List ℕ) → length xs ≤ k → drop k xs ≡ []
drop_all zero [] le = refl
drop_all (suc k) [] le = refl
drop_all zero (x ∷ xs) le = absurd (omega arith)
drop_all (suc k) (x ∷ xs) le = drop_all k xs (omega arith)

nil_right : (xs : List ℕ) → xs ++ [] ≡ xs
nil_right [] = refl
nil_right (x ∷ xs) = ap (λ (l : List ℕ). x ∷ l) (nil_right xs)

pub relinked : (first : Records) (ws : List WriteView) (before links : List ℕ) (old new : Records) → old ≡ first ++ put_records ws before → length before ≡ length ws → length links ≡ length ws → deltas_of new ≡ deltas_of old →
    links_of new ≡ take (length first) (links_of old) ++ links ++ drop (length first + length links) (links_of old) → new ≡ first ++ put_records ws links
relinked first ws before links old new parts same same' deltas linked =
    let count : length (links_of first) ≡ length first = length-map first (λ e. e.1) in
    let old_links : links_of old ≡ links_of first ++ before = ap links_of parts ∙ map-append (λ (e : Delta × ℕ). e.1) first (put_records ws before) ∙ ap (λ (l : List ℕ). links_of first ++ l) (links_put ws before same) in
    let new_deltas : deltas_of new ≡ deltas_of first ++ map Put ws = deltas ∙ ap deltas_of parts ∙ map-append (λ (e : Delta × ℕ). e.0) first (put_records ws before) ∙ ap (λ (l : List Delta). deltas_of first ++ l) (deltas_put ws before same) in
    let kept : take (length first) (links_of old) ≡ links_of first = ap (take (length first)) old_links ∙ ap (λ n. take n (links_of first ++ before)) (sym count) ∙ take_front (links_of first) before in
    let gone : drop (length first + length links) (links_of old) ≡ [] = drop_all (length first + length links) (links_of old) (omega (arith, ap length old_links, length-append (links_of first) before, count, same, same')) in
    let new_links : links_of new ≡ links_of first ++ links = linked ∙ ap (λ (l : List ℕ). (l ++ links) ++ drop (length first + length links) (links_of old)) kept ∙ ap (λ (l : List ℕ). (links_of first ++ links) ++ l) gone ∙ nil_right (links_of first ++ links) in
    sym (paired new) ∙ ap (λ (ds : List Delta). zip ds (links_of new)) new_deltas ∙ ap (zip (deltas_of first ++ map Put ws)) new_links
    ∙ zip_both (deltas_of first) (links_of first) (map Put ws) links (length-map first (λ e. e.0) ∙ sym count)
    ∙ ap (λ (l : Records). l ++ put_records ws links) (paired first)

one_state : {s t : PageState} → Live s ≡ Live t → s ≡ t
one_state e = cc

no_live : {s : PageState} → Free ≡ Live s → ⊥
no_live e = cc

-- a page with what was put over it
record Placed (bases : Bases) (ws : List WriteView) (levels : List (List ℕ)) (p : ℕ) (old new : Slot) : Type 0 where
  writes : List WriteView
  is : new ≡ put_over bases writes old
  inside : (s : PageState) → old ≡ Live s → AreInside s writes
  are : (s : PageState) → old ≡ Live s → Contains (row levels 0) p → IsPermutation (filter (λ w. is_in_range s.low s.high w.key) ws) writes

-- the new part of a page's chain
pub record ChainOf (slots : List Slot) (levels : List (List ℕ)) (floor : ℕ) (ws : List WriteView) (links : List ℕ) (head before p : ℕ) : Type 0 where
  pub chain : List ℕ
  pub way : Meets floor links head chain before
  pub once : (r : ℕ) → times r chain ≤ 1
  pub here : (r : ℕ) (w : WriteView) → slice_get ws r ≡ Some w → IsHome slots levels w.key p → 0 < times r chain
  pub only : (r : ℕ) (w : WriteView) → slice_get ws r ≡ Some w → 0 < times r chain → IsHome slots levels w.key p

home_inside : (slots : List Slot) (levels : List (List ℕ)) (key : KeyBytes) (p : ℕ) (s : PageState) → slot_at slots p ≡ Live s → IsHome slots levels key p → T (is_in_range s.low s.high key)
home_inside slots levels key p s is home =
    subst (λ (r : PageState). T (is_in_range r.low r.high key)) (one_state (sym home.reached.is ∙ is)) (both_of _ _ home.reached.from_low home.ends_above)

home_from : (slots : List Slot) (levels : List (List ℕ)) (key : KeyBytes) (p : ℕ) (s : PageState) → 0 < length levels → Contains (row levels 0) p → slot_at slots p ≡ Live s → is_in_range s.low s.high key ≡ true → IsHome slots levels key p
home_from slots levels key p s some has is inside = record {
  reached = record { within = some; in_level = has; state = s; is = is; from_low = left_of _ _ (true_holds _ inside) };
  ends_above = right_of _ _ (true_holds _ inside);
}

module _ (heads heads' : List ℕ) (bases : Bases) (first : Records) (root next bound : ℕ) (ws : List WriteView) (links : List ℕ) (linked : length links ≡ length ws) (pages : length heads' ≡ length heads)
    (stamped : AreStampedFrom next ws) (below : AreBelow bound ws) (le : next ≤ bound) (t : IsStanding heads bases first root next)
    (chains : (p : ℕ) → p < length heads → ChainOf (slots_of heads bases first) (levels_under (slots_of heads bases first) root) (floor_word + length first) ws links (slice_index heads' p) (slice_index heads p) p) where
  abbrev old_slots : List Slot
  old_slots = slots_of heads bases first

  abbrev old_levels : List (List ℕ)
  old_levels = levels_under old_slots root

  abbrev after : Records
  after = first ++ put_records ws links

  abbrev new_slots : List Slot
  new_slots = slots_of heads' bases after

  old_ends : (p : ℕ) → p < length heads → Ends bases first (slice_index heads p)
  old_ends p lt = t.ends p (slice_index heads p) (slice_get-get_or heads p 0 lt)

  chain_is : (p : ℕ) (lt : p < length heads) → Ends bases after (slice_index heads' p) × (slot_of_word bases after (slice_index heads' p) ≡ put_over bases (named ws (chains p lt).chain) (slot_of_word bases first (slice_index heads p))) × (base_under after (slice_index heads' p) ≡ base_under first (slice_index heads p))
  chain_is p lt = let c = chains p lt in chain_posted bases first ws links linked c.chain (slice_index heads' p) (slice_index heads p) c.way c.once (old_ends p lt)

  placed : (p : ℕ) → Placed bases ws old_levels p (slot_at old_slots p) (slot_at new_slots p)
  placed p = elim (cases_lt p (length heads)) [
    | inl lt ↦
        let c = chains p lt in
        record {
          writes = named ws c.chain;
          is = slot_of_head bases after heads' p 0 (omega (arith, lt, pages)) ∙ (chain_is p lt).1 ∙ ap (put_over bases (named ws c.chain)) (sym (slot_of_head bases first heads p 0 lt));
          inside = λ s is. named_pass ws stamped.distinct (λ w. T (is_in_range s.low s.high w.key)) c.chain (λ r w at some. home_inside old_slots old_levels w.key p s is (c.only r w at some));
          are = λ s is has. named_are ws stamped.distinct (λ w. is_in_range s.low s.high w.key) c.chain c.once
              (λ r w at pass. c.here r w at (home_from old_slots old_levels w.key p s t.lawful.some has is pass))
              (λ r w at some. holds _ (home_inside old_slots old_levels w.key p s is (c.only r w at some)));
        }
    | inr ge ↦
        let free = slot_past (slot_of_word bases first) heads p ge in
        record {
          writes = [];
          is = slot_past (slot_of_word bases after) heads' p (omega (arith, ge, pages)) ∙ sym free;
          inside = λ s is. absurd (no_live (sym free ∙ is));
          are = λ s is has. absurd (no_live (sym free ∙ is));
        }
  ]

  over : (p : ℕ) → IsPutOver bases (slot_at old_slots p) (slot_at new_slots p)
  over p = let o = placed p in record { writes = o.writes; is = o.is; inside = o.inside }

  pub lawful_after : AreLevels new_slots root old_levels
  lawful_after = levels_written bases old_slots new_slots over root old_levels t.lawful

  pub levels_after : levels_under new_slots root ≡ old_levels
  levels_after = levels_now new_slots root old_levels lawful_after

  abbrev leaves : List ℕ
  leaves = row old_levels 0

  moved : IsPermutation (ws ++ row_writes old_slots leaves) (row_writes new_slots leaves)
  moved = row_has_all bases ws old_slots new_slots leaves (t.lawful.rows 0 t.lawful.some) (λ p has. let o = placed p in record { writes = o.writes; is = o.is; are = λ s is. o.are s is has })

  whole_distinct : HasDistinctStamps (ws ++ row_writes old_slots leaves)
  whole_distinct = stamped_over next ws (row_writes old_slots leaves) stamped t.past t.distinct

  new_distinct : HasDistinctStamps (row_writes new_slots leaves)
  new_distinct = distinct_permuted (ws ++ row_writes old_slots leaves) (row_writes new_slots leaves) moved whole_distinct

  below_both : (xs ys : List WriteView) → AreBelow bound xs → AreBelow bound ys → AreBelow bound (xs ++ ys)
  below_both [] ys a b = b
  below_both (x ∷ xs) ys a b = (a.0, below_both xs ys a.1 b)

  new_below : AreBelow bound (row_writes new_slots leaves)
  new_below =
      let P : WriteView → Type 0 = λ w. w.stamp < bound in
      recursion_from_All P (row_writes new_slots leaves)
      (All-permutation P (ws ++ row_writes old_slots leaves) (row_writes new_slots leaves) moved
      (All-from_recursion P (ws ++ row_writes old_slots leaves) (below_both ws (row_writes old_slots leaves) below (below_all next bound (row_writes old_slots leaves) le t.past))))

  -- a page that has a record had one, or was given one, of a key that is at home there
  placed_after : ArePlaced heads' old_levels
  placed_after p lt high = let c = chains p within in by c.chain c.way c.only
    where
      within : p < length heads
      within = omega (arith, lt, pages)

      once_more : (r : ℕ) (rs : List ℕ) → 0 < times r (r ∷ rs)
      once_more r rs = grind (arith, nat_tests)

      by : (rs : List ℕ) → Meets (floor_word + length first) links (slice_index heads' p) rs (slice_index heads p) → ((r : ℕ) (w : WriteView) → slice_get ws r ≡ Some w → 0 < times r rs → IsHome old_slots old_levels w.key p) → IsInLevels old_levels p
      by [] met only = t.placed p within (subst (λ w. 2 ^ 32 ≤ w) met high)
      by (r ∷ rs) met only =
          let at = read_both ws links r met.1 linked in
          let home = only r at.0 at.1 (once_more r rs) in
          record { level = 0; within = home.reached.within; in_level = home.reached.in_level }

  pub standing_after : bound ≤ 2 ^ 40 → length after ≤ 2 ^ 32 → IsStanding heads' bases after root bound
  standing_after fits few = record {
    ends = λ p word e. ends p word e;
    own = record {
      count = pages ∙ t.own.count;
      number = λ p word at. let x = rested p word at in x.1 ∙ t.own.number p (slice_index heads p) (slice_get-get_or heads p 0 x.0);
    };
    lawful = subst (AreLevels new_slots root) (sym levels_after) lawful_after;
    exact = subst (AreExact new_slots) (sym levels_after) (exact_written bases old_slots new_slots over old_levels t.exact);
    stand = subst (AllStand new_slots) (sym levels_after) (stand_written bases old_slots new_slots over old_levels t.stand);
    distinct = subst (λ (l : List (List ℕ)). HasDistinctStamps (row_writes new_slots (row l 0))) (sym levels_after) new_distinct;
    past = subst (λ (l : List (List ℕ)). AreBelow bound (row_writes new_slots (row l 0))) (sym levels_after) new_below;
    placed = subst (ArePlaced heads') (sym levels_after) placed_after;
    fits = fits;
    few_records = few;
    few_pages = omega (arith, t.few_pages, pages);
    few_bases = t.few_bases;
  }
    where
      at : (xs : List ℕ) (i word : ℕ) → slice_get xs i ≡ Some word → (i < length xs) × (slice_index xs i ≡ word)
      at [] i word e = absurd (missing e)
        where
          missing : {w : ℕ} → None ≡ Some w → ⊥
          missing e = cc
      at (x ∷ xs) zero word e = (omega arith, one e)
        where
          one : {v w : ℕ} → Some v ≡ Some w → v ≡ w
          one e = cc
      at (x ∷ xs) (suc i) word e = let more = at xs i word e in (omega (arith, more.0), more.1)

      rested : (p word : ℕ) → slice_get heads' p ≡ Some word → (p < length heads) × (base_under after word ≡ base_under first (slice_index heads p))
      rested p word e =
          let a = at heads' p word e in
          let lt : p < length heads = omega (arith, a.0, pages) in
          (lt, ap (base_under after) (sym a.1) ∙ (chain_is p lt).2)

      ends : (p word : ℕ) → slice_get heads' p ≡ Some word → Ends bases after word
      ends p word e = let a = at heads' p word e in subst (Ends bases after) a.1 (chain_is p (omega (arith, a.0, pages))).0

  pub contents_after_it : (stamp : ℕ) → contents_as_of (from_entries (row_pairs new_slots (row (levels_under new_slots root) 0))) (row_writes new_slots (row (levels_under new_slots root) 0)) stamp ≡ contents_as_of (from_entries (row_pairs old_slots leaves)) (ws ++ row_writes old_slots leaves) stamp
  contents_after_it stamp =
      ap (λ (l : List (List ℕ)). contents_as_of (from_entries (row_pairs new_slots (row l 0))) (row_writes new_slots (row l 0)) stamp) levels_after
      ∙ ap (λ (es : List (KeyBytes × ValueBytes)). contents_as_of (from_entries es) (row_writes new_slots leaves) stamp) (pairs_alike bases old_slots new_slots over leaves)
      ∙ sym (same_as_of (from_entries (row_pairs old_slots leaves)) (ws ++ row_writes old_slots leaves) (row_writes new_slots leaves) stamp whole_distinct new_distinct
      (λ key u lt. sym (same_filtered (λ w. key_eq key w.key) (ws ++ row_writes old_slots leaves) (row_writes new_slots leaves) u moved whole_distinct)))

  -- each page is as it was, but for its writes
  pub pages_after : (p : ℕ) → slot_without_writes (slot_at new_slots p) ≡ slot_without_writes (slot_at old_slots p)
  pages_after p = let o = placed p in ap slot_without_writes o.is ∙ put_bare bases o.writes (slot_at old_slots p)

  -- and a leaf of the leaf level has those of its range
  pub writes_after : (p : ℕ) → Contains leaves p → IsPermutation (filter (λ w. has_key (slot_at old_slots p) w.key) ws ++ writes_over (slot_at old_slots p)) (writes_over (slot_at new_slots p))
  writes_after p has =
      let o = placed p in
      let st = (in_row old_slots 0 [] leaves has.0 p (t.lawful.rows 0 t.lawful.some) has.1 has.2).stands in
      page_has_writes bases ws (slot_at old_slots p) (slot_at new_slots p) st.state st.is (ap is_leaf st.is ∙ leaf_of st.state.low st.state.high st.state.side st.state.body st.sound st.at_level)
      (record { writes = o.writes; is = o.is; are = λ s is. o.are s is has })
