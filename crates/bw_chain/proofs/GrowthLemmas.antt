-- Records that are added where no chain has come to leave each page as it is.
use Rattle.std.proofs.Common.{◌≡◌, ℕ, zero, suc, ◌-◌, ◌<◌, ◌≤◌, true, false, cond, List, [], ◌∷◌, ◌++◌, length, map, take, drop, Some, None, nat_lt, refl, sym, ap, ◌∙◌, subst, arith}
use Rattle.std.specs.Prelude.{slice_get}
use Rattle.bw_delta.specs.declared.deltas.Delta.{Delta}
use Rattle.bw_level.specs.Slots.{Slot}
use Rattle.bw_level.specs.Walk.{Leads}
use Rattle.bw_level.specs.Changes.{Bases, based}
use Rattle.bw_chain.specs.Chains.{Records, Ends, EndsAt, IsShaped, record_at, link_of, linked_word, delta_in, deltas_at, floor_word, slot_of_word, changed}
use Rattle.bw_chain.proofs.ChainLemmas.{linked, link_is, no_record, slot_of_way}

-- each old record is still there
abbrev pub Extends : Records → Records → Type 0
Extends old new = (word : ℕ) (r : Delta × ℕ) → record_at old word ≡ Some r → record_at new word ≡ Some r

pub leads_on : (old new : Records) → Extends old new → (p : ℕ) (ws : List ℕ) (e : ℕ) → e < floor_word → Leads (link_of old) p ws e → Leads (link_of new) p ws e
leads_on old new kept p [] e below h = (h.0, ap linked_word (no_record new p (omega (arith, h.0, below))))
leads_on old new kept p (w ∷ ws) e below h =
    let there = linked old p h.1.0 h.1.1 in
    (h.0, (h.1.0, link_is new p there.0 (kept p there.0 there.1) ∙ ap Some there.2, leads_on old new kept h.1.0 ws e below h.1.2))

pub deltas_on : (old new : Records) → Extends old new → (p : ℕ) (ws : List ℕ) (e : ℕ) → Leads (link_of old) p ws e → deltas_at new ws ≡ deltas_at old ws
deltas_on old new kept p [] e h = refl
deltas_on old new kept p (w ∷ ws) e h =
    let there = linked old p h.1.0 h.1.1 in
    let was : record_at old w ≡ Some there.0 = ap (record_at old) h.0 ∙ there.1 in
    ap (λ o. delta_in o (deltas_at new ws)) (kept w there.0 was) ∙ ap (λ (l : List Delta). there.0.0 ∷ l) (deltas_on old new kept h.1.0 ws e h.1.2) ∙ sym (ap (λ o. delta_in o (deltas_at old ws)) was)

-- a chain of old records goes on to end, with the same state
pub still_ends : (bases : Bases) (old new : Records) (word : ℕ) → Extends old new → length old ≤ length new → Ends bases old word → Ends bases new word × (slot_of_word bases new word ≡ slot_of_word bases old word)
still_ends bases old new word kept more ends = by ends.0 ends.1.0 ends.1.1
  where
    by : (ws : List ℕ) (e : ℕ) → EndsAt bases old word ws e → Ends bases new word × (slot_of_word bases new word ≡ slot_of_word bases old word)
    by ws e h =
        let way = leads_on old new kept word ws e h.limit h.way in
        let same = deltas_on old new kept word ws e h.way in
        let short : length ws ≤ length new = omega (arith, h.short, more) in (
          (ws, (e, record { way = way; short = short; within = h.within; limit = h.limit; shaped = subst (IsShaped (based (slice_get bases e))) (sym same) h.shaped })),
          slot_of_way bases new word ws e way short ∙ ap (λ (l : List Delta). changed bases l (based (slice_get bases e))) same ∙ sym (slot_of_way bases old word ws e h.way h.short),
        )

no_entry : {r : Delta × ℕ} → None ≡ Some r → ⊥
no_entry e = cc

-- appending keeps what was there
pub slice_append : (old more : Records) (i : ℕ) (r : Delta × ℕ) → slice_get old i ≡ Some r → slice_get (old ++ more) i ≡ Some r
slice_append [] more i r e = absurd (no_entry e)
slice_append (x ∷ old) more zero r e = e
slice_append (x ∷ old) more (suc i) r e = slice_append old more i r e

pub append_extends : (old more : Records) → Extends old (old ++ more)
append_extends old more word r = elim (nat_lt word floor_word) as (λ b. cond b None (slice_get old (word - floor_word)) ≡ Some r → cond b None (slice_get (old ++ more) (word - floor_word)) ≡ Some r) [
  | true ↦ λ e. e
  | false ↦ λ e. slice_append old more (word - floor_word) r e
]

-- a list mapped in two ways that agree on it
pub same_map : (f g : ℕ → Slot) (heads : List ℕ) → ((p h : ℕ) → slice_get heads p ≡ Some h → g h ≡ f h) → map g heads ≡ map f heads
same_map f g [] agree = refl
same_map f g (h ∷ heads) agree = ap (λ (s : Slot). s ∷ map g heads) (agree zero h refl) ∙ ap (λ (l : List Slot). f h ∷ l) (same_map f g heads (λ p k e. agree (suc p) k e))

pub take_front : {X : Type 0} (xs ys : List X) → take (length xs) (xs ++ ys) ≡ xs
take_front [] [] = refl
take_front [] (y ∷ ys) = refl
take_front (x ∷ xs) ys = ap (λ l. x ∷ l) (take_front xs ys)

pub drop_front : {X : Type 0} (xs ys : List X) → drop (length xs) (xs ++ ys) ≡ ys
drop_front [] [] = refl
drop_front [] (y ∷ ys) = refl
drop_front (x ∷ xs) ys = drop_front xs ys
