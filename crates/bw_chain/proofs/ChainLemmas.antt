-- Chains, one record after another.
use Rattle.std.proofs.Common.{◌≡◌, ℕ, suc, ◌-◌, ◌<◌, ◌≤◌, true, false, cond, List, [], ◌∷◌, length, Option, Some, None, ltb, refl, sym, ap, ◌∙◌, subst, arith}
use Rattle.std.proofs.lemmas.Bool.Decides.{nat_tests}
use Rattle.std.proofs.lemmas.Option.{slice_get-map}
use Rattle.std.specs.Option.{option_map}
use Rattle.std.specs.Prelude.{slice_get}
use Rattle.bw_delta.specs.Arenas.{links_of}
use Rattle.bw_delta.specs.Writes.{WriteView}
use Rattle.bw_delta.specs.declared.deltas.Delta.{Delta}
use Rattle.bw_delta.specs.declared.deltas.Delta.TheVariants.{Put, Split, Absorb, Removed, AddChild, DropChild}
use Rattle.bw_level.specs.Walk.{Leads, walked, ended}
use Rattle.bw_level.specs.Slots.{Slot, Body, Pairs, Children, Free, Gone, Live}
use Rattle.bw_level.specs.Turns.{IsOther, slot_without_writes, body_without_writes}
use Rattle.bw_level.specs.Changes.{Bases, body_written, change, based}
use Rattle.bw_chain.specs.Chains.{Records, Ends, EndsAt, IsShaped, floor_word, record_at, link_of, linked_word, delta_in, deltas_at, changed, slot_of_word}
use Rattle.bw_level.proofs.WalkLemmas.{walked_is, ended_is, way_falls_within}

pub link_is : (records : Records) (word : ℕ) (r : Delta × ℕ) → record_at records word ≡ Some r → link_of records word ≡ Some r.1
link_is records word r at = ap linked_word at

-- the link of a record is found among the links alone
pub link_among : (records : Records) (word : ℕ) → floor_word ≤ word → slice_get (links_of records) (word - floor_word) ≡ link_of records word
link_among records word from =
    let test : ltb word floor_word ≡ false = grind (arith, nat_tests) in
    slice_get-map (λ (r : Delta × ℕ). r.1) records (word - floor_word)
    ∙ linked_as (slice_get records (word - floor_word))
    ∙ sym (ap (λ b. linked_word (cond b None (slice_get records (word - floor_word)))) test)
  where
    linked_as : (o : Option (Delta × ℕ)) → option_map (λ r. r.1) o ≡ linked_word o
    linked_as None = refl
    linked_as (Some r) = refl

pub no_record : (records : Records) (word : ℕ) → word < floor_word → record_at records word ≡ None
no_record records word below =
    let test : ltb word floor_word ≡ true = grind (arith, nat_tests) in
    ap (λ b. cond b None (slice_get records (word - floor_word))) test

pub no_next : {q : ℕ} → None ≡ Some q → ⊥
no_next e = cc

pub same_next : {p q : ℕ} → Some p ≡ Some q → p ≡ q
same_next e = cc

pub no_link : (records : Records) (word : ℕ) → word < floor_word → None ≡ link_of records word
no_link records word below = sym (ap linked_word (no_record records word below))

-- a link stands in a record
pub linked : (records : Records) (word q : ℕ) → link_of records word ≡ Some q → (r : Delta × ℕ) × (record_at records word ≡ Some r) × (r.1 ≡ q)
linked records word q e = there (record_at records word) refl e
  where
    there : (o : Option (Delta × ℕ)) → record_at records word ≡ o → linked_word o ≡ Some q → (r : Delta × ℕ) × (record_at records word ≡ Some r) × (r.1 ≡ q)
    there None at read = absurd (no_next read)
    there (Some r) at read = (r, at, same_next read)

-- and where there is none, there is no record
pub no_record_there : (records : Records) (word : ℕ) → link_of records word ≡ None → record_at records word ≡ None
no_record_there records word e = there (record_at records word) refl e
  where
    there : (o : Option (Delta × ℕ)) → record_at records word ≡ o → linked_word o ≡ None → record_at records word ≡ None
    there None at read = at
    there (Some r) at read = absurd (no_next (sym read))

-- a word that leads to a base page has the page's state with the records on the way
pub slot_of_way : (bases : Bases) (records : Records) (word : ℕ) (ws : List ℕ) (e : ℕ) → Leads (link_of records) word ws e → length ws ≤ length records →
    slot_of_word bases records word ≡ changed bases (deltas_at records ws) (based (slice_get bases e))
slot_of_way bases records word ws e way short =
    ap (λ (l : List ℕ). changed bases (deltas_at records l) (based (slice_get bases (ended (link_of records) (length records) word)))) (walked_is (link_of records) (length records) word ws e way short)
    ∙ ap (λ m. changed bases (deltas_at records ws) (based (slice_get bases m))) (ended_is (link_of records) (length records) word ws e way short)

way_records : (records : Records) (p : ℕ) (ws : List ℕ) (e : ℕ) → Leads (link_of records) p ws e → length (deltas_at records ws) ≡ length ws
way_records records p [] e h = refl
way_records records p (w ∷ ws) e h =
    let there = linked records p h.1.0 h.1.1 in
    let read : record_at records w ≡ Some there.0 = ap (record_at records) h.0 ∙ there.1 in
    ap (λ o. length (delta_in o (deltas_at records ws))) read ∙ ap suc (way_records records h.1.0 ws e h.1.2)

pub none_on : (records : Records) (p : ℕ) (ws : List ℕ) (e : ℕ) → Leads (link_of records) p ws e → deltas_at records ws ≡ [] → ws ≡ []
none_on records p [] e h none_there = refl
none_on records p (w ∷ ws) e h none_there = absurd (omega (arith, ap length none_there, way_records records p (w ∷ ws) e h))

-- what lies under a record of a chain: a chain under a write, and under any other change a base page
abbrev pub Below : Bases → Records → Delta → ℕ → Type 0
Below bases records (Put w) q = Ends bases records q
Below bases records (Split k to) q = slot_of_word bases records q ≡ based (slice_get bases q)
Below bases records (Absorb base side) q = slot_of_word bases records q ≡ based (slice_get bases q)
Below bases records (Removed left) q = ⊥
Below bases records (AddChild k child) q = slot_of_word bases records q ≡ based (slice_get bases q)
Below bases records (DropChild k) q = slot_of_word bases records q ≡ based (slice_get bases q)

-- What a record changes lies under it, and there is less of a chain under it.
pub record Under (bases : Bases) (records : Records) (word : ℕ) (r : Delta × ℕ) : Type 0 where
  pub state : slot_of_word bases records word ≡ change bases r.0 (slot_of_word bases records r.1)
  pub ends : Below bases records r.0 r.1
  pub less : length (walked (link_of records) (length records) r.1) < length (walked (link_of records) (length records) word)

-- where no record is left on the way, a base page lies there
base_there : (bases : Bases) (records : Records) (q : ℕ) (ws : List ℕ) (e : ℕ) → Leads (link_of records) q ws e → deltas_at records ws ≡ [] → slot_of_word bases records q ≡ based (slice_get bases q)
base_there bases records q ws e way none =
    let ended_there : Leads (link_of records) q [] e = subst (λ (l : List ℕ). Leads (link_of records) q l e) (none_on records q ws e way none) way in
    slot_of_way bases records q [] e ended_there (omega arith) ∙ ap (λ m. based (slice_get bases m)) (sym ended_there.0)

below_it : (bases : Bases) (records : Records) (q : ℕ) (d : Delta) (ws : List ℕ) (e : ℕ) → Leads (link_of records) q ws e → length ws ≤ length records → e < length bases → e < floor_word → IsShaped (based (slice_get bases e)) (d ∷ deltas_at records ws) → Below bases records d q
below_it bases records q (Put w) ws e way short within limit shaped = (ws, (e, record { way = way; short = short; within = within; limit = limit; shaped = shaped }))
below_it bases records q (Split k to) ws e way short within limit shaped = base_there bases records q ws e way shaped
below_it bases records q (Absorb base side) ws e way short within limit shaped = base_there bases records q ws e way shaped.0
below_it bases records q (Removed left) ws e way short within limit shaped = absurd shaped
below_it bases records q (AddChild k child) ws e way short within limit shaped = base_there bases records q ws e way shaped.0
below_it bases records q (DropChild k) ws e way short within limit shaped = base_there bases records q ws e way shaped

under_way : (bases : Bases) (records : Records) (word : ℕ) (r : Delta × ℕ) → record_at records word ≡ Some r →
    (ws : List ℕ) (e : ℕ) → EndsAt bases records word ws e → Under bases records word r
under_way bases records word r at [] e h = absurd (no_next (sym h.way.1 ∙ link_is records word r at))
under_way bases records word r at (w ∷ ws) e h =
    let way = h.way in
    let step = link_is records word r at in
    let same : way.1.0 ≡ r.1 = same_next (sym way.1.1 ∙ step) in
    let rest : Leads (link_of records) r.1 ws e = subst (λ z. Leads (link_of records) z ws e) same way.1.2 in
    let here : record_at records w ≡ Some r = ap (record_at records) way.0 ∙ at in
    let short_rest : length ws ≤ length records = omega (arith, h.short) in
    let listed : deltas_at records (w ∷ ws) ≡ r.0 ∷ deltas_at records ws = ap (λ o. delta_in o (deltas_at records ws)) here in
    record {
      state =
          slot_of_way bases records word (w ∷ ws) e way h.short
          ∙ ap (λ (l : List Delta). changed bases l (based (slice_get bases e))) listed
          ∙ ap (change bases r.0) (sym (slot_of_way bases records r.1 ws e rest short_rest));
      ends = below_it bases records r.1 r.0 ws e rest short_rest h.within h.limit (subst (IsShaped (based (slice_get bases e))) listed h.shaped);
      less = (way_falls_within (link_of records) (length records) word r.1 (w ∷ ws) e way h.short step).0;
    }

pub under : (bases : Bases) (records : Records) (word : ℕ) (r : Delta × ℕ) → Ends bases records word → record_at records word ≡ Some r → Under bases records word r
under bases records word r ends at = under_way bases records word r at ends.0 ends.1.0 ends.1.1

-- below all records lies a base page
pub on_base : (bases : Bases) (records : Records) (word : ℕ) → Ends bases records word → record_at records word ≡ None → slot_of_word bases records word ≡ based (slice_get bases word)
on_base bases records word ends none = by ends.0 ends.1.0 ends.1.1
  where
    by : (ws : List ℕ) (e : ℕ) → EndsAt bases records word ws e → slot_of_word bases records word ≡ based (slice_get bases word)
    by [] e h = slot_of_way bases records word [] e h.way h.short ∙ ap (λ m. based (slice_get bases m)) (sym h.way.0)
    by (w ∷ ws) e h = absurd (no_next (sym (ap linked_word none) ∙ h.way.1.1))

-- a write leaves the rest of a page
pub bare_put : (bases : Bases) (w : WriteView) (slot : Slot) → slot_without_writes (change bases (Put w) slot) ≡ slot_without_writes slot
bare_put bases w Free = refl
bare_put bases w (Gone l) = refl
bare_put bases w (Live s) = ap (λ b. Live (record s { body = b })) (bare_written w s.body)
  where
    bare_written : (w : WriteView) (b : Body) → body_without_writes (body_written w b) ≡ body_without_writes b
    bare_written w (Pairs pairs writes) = refl
    bare_written w (Children level children) = refl

-- under a write lies the rest of the chain
pub record UnderPut (bases : Bases) (records : Records) (word under : ℕ) : Type 0 where
  pub same : slot_without_writes (slot_of_word bases records word) ≡ slot_without_writes (slot_of_word bases records under)
  pub ends : Ends bases records under
  pub less : length (walked (link_of records) (length records) under) < length (walked (link_of records) (length records) word)

pub under_put : (bases : Bases) (records : Records) (word under_it : ℕ) (d : Delta) (w : WriteView) → Ends bases records word → record_at records word ≡ Some (d, under_it) → d ≡ Put w → UnderPut bases records word under_it
under_put bases records word under_it d w ends at put =
    let u = under bases records word (d, under_it) ends at in
    record {
      same = ap slot_without_writes (u.state ∙ ap (λ d. change bases d (slot_of_word bases records under_it)) put) ∙ bare_put bases w (slot_of_word bases records under_it);
      ends = subst (λ d. Below bases records d under_it) put u.ends;
      less = u.less;
    }

-- a change over another one is a write
write_over : (base : Slot) (d : Delta) (ds : List Delta) → IsShaped base (d ∷ ds) → (ds ≡ [] → ⊥) → (w : WriteView) × (d ≡ Put w)
write_over base (Put w) ds shaped more = (w, refl)
write_over base (Split k to) ds shaped more = absurd (more shaped)
write_over base (Absorb number side) ds shaped more = absurd (more shaped.0)
write_over base (Removed left) ds shaped more = absurd shaped
write_over base (AddChild k child) ds shaped more = absurd (more shaped.0)
write_over base (DropChild k) ds shaped more = absurd (more shaped)

-- so a record that lies over another one is a write
pub put_over : (bases : Bases) (records : Records) (word under_it : ℕ) → Ends bases records word → link_of records word ≡ Some under_it → floor_word ≤ under_it → (w : WriteView) × (record_at records word ≡ Some (Put w, under_it))
put_over bases records word under_it ends link from = by ends.0 ends.1.0 ends.1.1
  where
    by : (ws : List ℕ) (e : ℕ) → EndsAt bases records word ws e → (w : WriteView) × (record_at records word ≡ Some (Put w, under_it))
    by [] e h = absurd (no_next (sym h.way.1 ∙ link))
    by (w ∷ []) e h = absurd (omega (arith, from, h.limit, same_next (sym h.way.1.1 ∙ link), h.way.1.2.0))
    by (w ∷ v ∷ ws) e h =
        let there = linked records word under_it link in
        let listed : deltas_at records (w ∷ v ∷ ws) ≡ there.0.0 ∷ deltas_at records (v ∷ ws) = ap (λ o. delta_in o (deltas_at records (v ∷ ws))) (ap (record_at records) h.way.0 ∙ there.1) in
        let more : deltas_at records (v ∷ ws) ≡ [] → ⊥ = λ none. omega (arith, ap length (none_on records h.way.1.0 (v ∷ ws) e h.way.1.2 none)) in
        let put = write_over (based (slice_get bases e)) there.0.0 (deltas_at records (v ∷ ws)) (subst (IsShaped (based (slice_get bases e))) listed h.shaped) more in
        (put.0, there.1 ∙ ap (λ n. Some (there.0.0, n)) there.2 ∙ ap (λ (d : Delta). Some (d, under_it)) put.1)

-- and under it is the rest of the chain
pub over_record : (bases : Bases) (records : Records) (word under_it : ℕ) → Ends bases records word → link_of records word ≡ Some under_it → floor_word ≤ under_it → UnderPut bases records word under_it
over_record bases records word under_it ends link from =
    let p = put_over bases records word under_it ends link from in
    under_put bases records word under_it (Put p.0) p.0 ends p.1 refl

-- under any other change lies a base page
pub under_other : (bases : Bases) (records : Records) (word under_it : ℕ) (d : Delta) → Ends bases records word → record_at records word ≡ Some (d, under_it) → ((w : WriteView) → d ≡ Put w → ⊥) →
    (slot_of_word bases records word ≡ change bases d (based (slice_get bases under_it))) × IsOther d
under_other bases records word under_it d ends at not_put =
    let u = under bases records word (d, under_it) ends at in
    by d u.state u.ends not_put
  where
    by : (d : Delta) → slot_of_word bases records word ≡ change bases d (slot_of_word bases records under_it) → Below bases records d under_it → ((w : WriteView) → d ≡ Put w → ⊥) → (slot_of_word bases records word ≡ change bases d (based (slice_get bases under_it))) × IsOther d
    by (Put w) state below not_put = absurd (not_put w refl)
    by (Split k to) state below not_put = (state ∙ ap (change bases (Split k to)) below, tt)
    by (Absorb base side) state below not_put = (state ∙ below, tt)
    by (Removed left) state below not_put = absurd below
    by (AddChild k child) state below not_put = (state ∙ ap (change bases (AddChild k child)) below, tt)
    by (DropChild k) state below not_put = (state ∙ below, tt)
