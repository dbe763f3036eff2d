-- The chain of a page once staged records were posted to it.
use Rattle.std.proofs.Common.{◌≡◌, ℕ, ◌+◌, ◌-◌, ◌<◌, ◌≤◌, false, cond, List, [], ◌∷◌, ◌++◌, length, map, Option, Some, None, ltb, refl, sym, ap, ◌∙◌, subst, arith, length-append}
use Rattle.std.specs.Prelude.{slice_get, slice_index}
use Rattle.std.proofs.lemmas.Bool.Decides.{nat_tests}
use Rattle.std.proofs.lemmas.List.{length-map}
use Rattle.bw_core.specs.World.{Meets, times}
use Rattle.bw_core.proofs.Lists.{few, meets_low}
use Rattle.bw_delta.specs.Writes.{WriteView}
use Rattle.bw_delta.specs.declared.deltas.Delta.{Delta}
use Rattle.bw_delta.specs.declared.deltas.Delta.TheVariants.{Put}
use Rattle.bw_level.specs.Slots.{Slot}
use Rattle.bw_level.specs.Walk.{Leads}
use Rattle.bw_level.specs.Changes.{Bases, change, based}
use Rattle.bw_chain.specs.Chains.{Records, Ends, EndsAt, IsShaped, floor_word, record_at, link_of, delta_in, deltas_at, changed, slot_of_word}
use Rattle.bw_chain.specs.Records.{put_records}
use Rattle.bw_chain.specs.Supports.{base_under}
use Rattle.bw_chain.proofs.ChainLemmas.{link_is, slot_of_way}
use Rattle.bw_chain.proofs.GrowthLemmas.{append_extends, deltas_on, leads_on}
use Rattle.bw_level.proofs.WalkLemmas.{ended_is}
use Rattle.bw_look.proofs.StagedLemmas.{length_behind, read_behind, read_both}

-- the write at a place, before others
abbrev pub write_before : Option WriteView → List WriteView → List WriteView
write_before None ws = ws
write_before (Some w) ws = w ∷ ws

-- the writes that records name, by their places among the staged ones
abbrev pub named : List WriteView → List ℕ → List WriteView
named ws [] = []
named ws (r ∷ rs) = write_before (slice_get ws r) (named ws rs)

-- a page with writes put over it, the newest first
abbrev pub put_over : Bases → List WriteView → Slot → Slot
put_over bases [] slot = slot
put_over bases (w ∷ ws) slot = change bases (Put w) (put_over bases ws slot)

-- a staged record stands at its word
record_there : (old : Records) (ws : List WriteView) (links : List ℕ) (r : ℕ) → r < length links → length links ≡ length ws →
    (w : WriteView) × (slice_get ws r ≡ Some w) × (record_at (old ++ put_records ws links) (floor_word + length old + r) ≡ Some (Put w, slice_index links r))
record_there old ws links r lt same =
    let both = read_both ws links r lt same in
    let word = floor_word + length old + r in
    let test : ltb word floor_word ≡ false = grind (arith, nat_tests) in
    let place : word - floor_word ≡ length old + r = omega arith in (
      both.0,
      both.1,
      ap (λ b. cond b None (slice_get (old ++ put_records ws links) (word - floor_word))) test
          ∙ ap (slice_get (old ++ put_records ws links)) place ∙ read_behind old (put_records ws links) r ∙ both.2,
    )

module _ (bases : Bases) (old : Records) (ws : List WriteView) (links : List ℕ) (same : length links ≡ length ws) where
  abbrev pub posted : Records
  posted = old ++ put_records ws links

  abbrev words : List ℕ → List ℕ
  words = map (λ r. floor_word + length old + r)

  posted_way : (rs : List ℕ) (head before : ℕ) (xs : List ℕ) (e : ℕ) → Meets (floor_word + length old) links head rs before → Leads (link_of posted) before xs e → Leads (link_of posted) head (words rs ++ xs) e
  posted_way [] head before xs e met way = subst (λ p. Leads (link_of posted) p xs e) (sym met) way
  posted_way (r ∷ rs) head before xs e met way =
      let there = record_there old ws links r met.1 same in
      let at : record_at posted head ≡ Some (Put there.0, slice_index links r) = ap (record_at posted) met.0 ∙ there.2 in
      (sym met.0, (slice_index links r, link_is posted head (Put there.0, slice_index links r) at, posted_way rs (slice_index links r) before xs e met.2 way))

  abbrev puts : List WriteView → List Delta → List Delta
  puts [] ds = ds
  puts (v ∷ vs) ds = Put v ∷ puts vs ds

  posted_deltas : (rs : List ℕ) (head before : ℕ) (xs : List ℕ) → Meets (floor_word + length old) links head rs before → deltas_at posted (words rs ++ xs) ≡ puts (named ws rs) (deltas_at posted xs)
  posted_deltas [] head before xs met = refl
  posted_deltas (r ∷ rs) head before xs met =
      let there = record_there old ws links r met.1 same in
      ap (λ o. delta_in o (deltas_at posted (words rs ++ xs))) there.2
      ∙ ap (λ (l : List Delta). Put there.0 ∷ l) (posted_deltas rs (slice_index links r) before xs met.2)
      ∙ ap (λ o. puts (write_before o (named ws rs)) (deltas_at posted xs)) (sym there.1)

  puts_shaped : (base : Slot) (vs : List WriteView) (ds : List Delta) → IsShaped base ds → IsShaped base (puts vs ds)
  puts_shaped base [] ds h = h
  puts_shaped base (v ∷ vs) ds h = puts_shaped base vs ds h

  puts_changed : (vs : List WriteView) (ds : List Delta) (slot : Slot) → changed bases (puts vs ds) slot ≡ put_over bases vs (changed bases ds slot)
  puts_changed [] ds slot = refl
  puts_changed (v ∷ vs) ds slot = ap (change bases (Put v)) (puts_changed vs ds slot)

  pub posted_length : length posted ≡ length old + length ws
  posted_length = length_behind old ws links same

  -- The posted records come before the chain of old ones: the page has their writes over it, and rests on the same.
  pub chain_posted : (rs : List ℕ) (head before : ℕ) → Meets (floor_word + length old) links head rs before → ((r : ℕ) → times r rs ≤ 1) → Ends bases old before → Ends bases posted head × (slot_of_word bases posted head ≡ put_over bases (named ws rs) (slot_of_word bases old before)) × (base_under posted head ≡ base_under old before)
  chain_posted rs head before met once ends = by ends.0 ends.1.0 ends.1.1
    where
      by : (xs : List ℕ) (e : ℕ) → EndsAt bases old before xs e → Ends bases posted head × (slot_of_word bases posted head ≡ put_over bases (named ws rs) (slot_of_word bases old before)) × (base_under posted head ≡ base_under old before)
      by xs e h =
          let kept = append_extends old (put_records ws links) in
          let way = posted_way rs head before xs e met (leads_on old posted kept before xs e h.limit h.way) in
          let listed : deltas_at posted (words rs ++ xs) ≡ puts (named ws rs) (deltas_at old xs) = posted_deltas rs head before xs met ∙ ap (puts (named ws rs)) (deltas_on old posted kept before xs e h.way) in
          let short : length (words rs ++ xs) ≤ length posted = omega (arith, h.short, posted_length, same, length-append (words rs) xs, length-map rs (λ r. floor_word + length old + r), few (length links) rs (meets_low (floor_word + length old) links head rs before met) once) in (
            (words rs ++ xs, (e, record { way = way; short = short; within = h.within; limit = h.limit; shaped = subst (IsShaped (based (slice_get bases e))) (sym listed) (puts_shaped (based (slice_get bases e)) (named ws rs) (deltas_at old xs) h.shaped) })),
            slot_of_way bases posted head (words rs ++ xs) e way short ∙ ap (λ (l : List Delta). changed bases l (based (slice_get bases e))) listed
                ∙ puts_changed (named ws rs) (deltas_at old xs) (based (slice_get bases e)) ∙ ap (put_over bases (named ws rs)) (sym (slot_of_way bases old before xs e h.way h.short)),
            ended_is (link_of posted) (length posted) head (words rs ++ xs) e way short ∙ sym (ended_is (link_of old) (length old) before xs e h.way h.short),
          )
