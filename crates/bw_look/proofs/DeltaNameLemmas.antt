-- No delta of a chain names a page to which nothing leads.
use Rattle.std.proofs.Common.{inl, inr, ◌⊎◌, ◌≡◌, ℕ, zero, suc, ◌<◌, ◌≤◌, ◌^◌, List, [], ◌∷◌, length, Option, Some, None, refl, sym, ap, ◌∙◌, subst, arith}
use Rattle.std.proofs.lemmas.Bool.{cases_lt}
use Rattle.std.proofs.lemmas.Option.{slice_get-get_or}
use Rattle.std.specs.List.{Contains}
use Rattle.std.specs.Prelude.{slice_get, slice_index}
use Rattle.bw_key.specs.Order.{KeyBytes}
use Rattle.bw_level.specs.Changes.{Bases, based}
use Rattle.bw_level.specs.Freeing.{IsUnreached}
use Rattle.bw_level.specs.Levels.{levels_under, row}
use Rattle.bw_level.specs.Searches.{IsInLevels}
use Rattle.bw_level.specs.Slots.{Slot, Body, Pairs, Children, Live, IsSoundBody, children_of, level_of, side_of_slot}
use Rattle.bw_level.proofs.RowLemmas.{InRow, in_row}
use Rattle.bw_level.proofs.WalkLemmas.{walked_is}
use Rattle.bw_chain.specs.Chains.{EndsAt, Records, changed, deltas_at, link_of, slots_of, slot_of_word}
use Rattle.bw_chain.specs.DeltaNames.{HasDeltaNaming}
use Rattle.bw_chain.proofs.AdditionLemmas.{slot_here}
use Rattle.bw_chain.proofs.ChainLemmas.{no_link, slot_of_way}
use Rattle.bw_chain.proofs.DeltaNameLemmas.{Names, delta_named}
use Rattle.bw_look.specs.Trees.{IsStanding}
use Rattle.bw_look.proofs.NeighbourLemmas.{beside}

no_link_there : {q : ℕ} → ◌≡◌ {A = Option ℕ} None (Some q) → ⊥
no_link_there e = cc

inside : (xs : List ℕ) (i x : ℕ) → slice_get xs i ≡ Some x → i < length xs
inside [] i x e = absurd (no_link_there e)
inside (y ∷ xs) zero x e = omega arith
inside (y ∷ xs) (suc i) x e = let more = inside xs i x e in omega arith

-- a page with index entries stands above the leaves
raised : (low : KeyBytes) (high : Option KeyBytes) (side : Option ℕ) (b : Body) (e : KeyBytes × ℕ) → IsSoundBody low high side b → Contains (children_of b) e → 0 < level_of b
raised low high side (Pairs pairs writes) e sound has = absurd (omega (arith, has.1))
raised low high side (Children level children) e sound has = sound.raised

module _ (heads : List ℕ) (bases : Bases) (records : Records) (root bound page p : ℕ) (t : IsStanding heads bases records root bound) (unreached : IsUnreached (slots_of heads bases records) (levels_under (slots_of heads bases records) root) p) (has : HasDeltaNaming heads records page p) where
  abbrev slots : List Slot
  slots = slots_of heads bases records

  abbrev levels : List (List ℕ)
  levels = levels_under slots root

  within : page < length heads
  within = inside heads page has.word has.at

  -- a page of a level names no such page
  names_none : (on : IsInLevels levels page) (at : InRow slots on.level (row levels on.level) on.in_level.0 page) → Names at.stands.state p → ⊥
  names_none on at (inl side) = unreached.stands (record {
    level = on.level;
    within = on.within;
    in_level = (beside slots on.level page p (row levels on.level) on.in_level.0 at (ap side_of_slot at.stands.is ∙ side)).in_row;
  })
  names_none on at (inr child) = by on.level refl
    where
      above : 0 < on.level
      above = let s = at.stands.state in omega (arith, at.stands.at_level, raised s.low s.high s.side s.body (child.0, p) at.stands.sound child.1)

      by : (n : ℕ) → on.level ≡ n → ⊥
      by zero is = omega (arith, above, is)
      by (suc n) is = unreached.named n child.0 (omega (arith, on.within, is)) (record {
        page = page;
        in_level = subst (λ m. Contains (row levels m) page) is on.in_level;
        state = at.stands.state;
        is = at.stands.is;
        named = child.1;
      })

  on_level : (ws : List ℕ) (e : ℕ) → EndsAt bases records has.word ws e → Contains (deltas_at records ws) has.delta → 2 ^ 32 ≤ has.word
  on_level [] e h there = absurd (omega (arith, there.1))
  on_level (w ∷ ws) e h there = by (cases_lt has.word (2 ^ 32))
    where
      by : (has.word < 2 ^ 32) ⊎ (2 ^ 32 ≤ has.word) → 2 ^ 32 ≤ has.word
      by (inl low) = absurd (no_link_there (no_link records has.word low ∙ h.way.1.1))
      by (inr high) = high

  ended_at : (ws : List ℕ) (e : ℕ) → EndsAt bases records has.word ws e → ⊥
  ended_at ws e h =
      let there = subst (λ (l : List ℕ). Contains (deltas_at records l) has.delta) (walked_is (link_of records) (length records) has.word ws e h.way h.short) has.in_chain in
      let word_is : slice_index heads page ≡ has.word = one (sym (slice_get-get_or heads page 0 within) ∙ has.at) in
      let on = t.placed page within (subst (λ n. 2 ^ 32 ≤ n) (sym word_is) (on_level ws e h there)) in
      let at = in_row slots on.level [] (row levels on.level) on.in_level.0 page (t.lawful.rows on.level on.within) on.in_level.1 on.in_level.2 in
      let made : changed bases (deltas_at records ws) (based (slice_get bases e)) ≡ Live at.stands.state =
      sym (slot_of_way bases records has.word ws e h.way h.short) ∙ sym (slot_here (slot_of_word bases records) heads page has.word has.at) ∙ at.stands.is in
      names_none on at (delta_named bases (based (slice_get bases e)) (deltas_at records ws) has.delta p at.stands.state h.shaped there has.names made)
    where
      one : {x y : ℕ} → Some x ≡ Some y → x ≡ y
      one e = cc

  pub no_delta_for : ⊥
  no_delta_for = let ends = t.ends page has.word has.at in ended_at ends.0 ends.1.0 ends.1.1
