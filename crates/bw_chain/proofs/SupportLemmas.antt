-- A page is the same over other base pages, where the one on which it rests is.
use Rattle.std.proofs.Common.{◌≡◌, ℕ, ◌<◌, ◌≤◌, List, [], ◌∷◌, length, Option, Some, None, refl, sym, ap, ◌∙◌, subst, arith}
use Rattle.std.specs.Prelude.{slice_get}
use Rattle.bw_page.specs.declared.pages.Page.{Page}
use Rattle.bw_delta.specs.declared.deltas.Delta.{Delta}
use Rattle.bw_delta.specs.declared.deltas.Delta.TheVariants.{Put, Split, Absorb, Removed, AddChild, DropChild}
use Rattle.bw_level.specs.Changes.{Bases, based, change}
use Rattle.bw_chain.specs.Chains.{Records, Ends, EndsAt, IsShaped, changed, deltas_at, link_of}
use Rattle.bw_chain.specs.Supports.{PageIsKept, OwnBases, base_under}
use Rattle.bw_level.specs.Slots.{Slot}
use Rattle.bw_level.specs.Walk.{Leads, walked}
use Rattle.bw_chain.proofs.GrowthLemmas.{Extends, leads_on as way_on}
use Rattle.bw_level.proofs.WalkLemmas.{ended_is, way_falls_within}

-- no delta looks at other base pages
same_change : (old new : Bases) (d : Delta) (slot : Slot) → change new d slot ≡ change old d slot
same_change old new (Put w) slot = refl
same_change old new (Split k to) slot = refl
same_change old new (Absorb base side) slot = refl
same_change old new (Removed left) slot = refl
same_change old new (AddChild k child) slot = refl
same_change old new (DropChild k) slot = refl

same_changed : (old new : Bases) (ds : List Delta) (slot : Slot) → changed new ds slot ≡ changed old ds slot
same_changed old new [] slot = refl
same_changed old new (d ∷ ds) slot = same_change old new d (changed new ds slot) ∙ ap (change old d) (same_changed old new ds slot)

pub page_kept : PageIsKept
page_kept old new records word same =
    let ds = deltas_at records (walked (link_of records) (length records) word) in
    same_changed old new ds (based (slice_get new (base_under records word))) ∙ ap (λ (o : Option (Option Page)). changed old ds (based o)) same

-- no two pages rest on one base page
pub one_page : (heads : List ℕ) (bases : Bases) (records : Records) → OwnBases heads bases records → (p q v w : ℕ) → slice_get heads p ≡ Some v → slice_get heads q ≡ Some w → base_under records v ≡ base_under records w → p ≡ q
one_page heads bases records own p q v w at_p at_q same = sym (own.number p v at_p) ∙ same ∙ own.number q w at_q

-- links lead from a word to a base page
pub record LeadsTo (records : Records) (base word : ℕ) : Type 0 where
  pub words : List ℕ
  pub way : Leads (link_of records) word words base
  pub short : length words ≤ length records

pub leads_from : (bases : Bases) (records : Records) (word : ℕ) → Ends bases records word → LeadsTo records (base_under records word) word
leads_from bases records word ends = by ends.0 ends.1.0 ends.1.1
  where
    by : (ws : List ℕ) (e : ℕ) → EndsAt bases records word ws e → LeadsTo records (base_under records word) word
    by ws e h = record {
      words = ws;
      way = subst (Leads (link_of records) word ws) (sym (ended_is (link_of records) (length records) word ws e h.way h.short)) h.way;
      short = h.short;
    }

-- the base page is one of the list
pub base_within : (bases : Bases) (records : Records) (word : ℕ) → Ends bases records word → base_under records word < length bases
base_within bases records word ends = by ends.0 ends.1.0 ends.1.1
  where
    by : (ws : List ℕ) (e : ℕ) → EndsAt bases records word ws e → base_under records word < length bases
    by ws e h = subst (λ n. n < length bases) (sym (ended_is (link_of records) (length records) word ws e h.way h.short)) h.within

-- a chain still ends over other base pages, as many or more, where the one on which it rests is the same
pub ends_within : (old new : Bases) (records : Records) (word : ℕ) → length old ≤ length new → slice_get new (base_under records word) ≡ slice_get old (base_under records word) → Ends old records word → Ends new records word
ends_within old new records word more same ends = by ends.0 ends.1.0 ends.1.1
  where
    by : (ws : List ℕ) (e : ℕ) → EndsAt old records word ws e → Ends new records word
    by ws e h =
        let there = subst (λ n. slice_get new n ≡ slice_get old n) (ended_is (link_of records) (length records) word ws e h.way h.short) same in
        (ws, (e, record { way = h.way; short = h.short; within = omega (arith, h.within, more); limit = h.limit; shaped = subst (λ (o : Option (Option Page)). IsShaped (based o) (deltas_at records ws)) (sym there) h.shaped }))

no_next : {q : ℕ} → None ≡ Some q → ⊥
no_next e = cc

-- and so does the word under it
pub leads_on : (records : Records) (base word under : ℕ) → link_of records word ≡ Some under → LeadsTo records base word →
    LeadsTo records base under × (length (walked (link_of records) (length records) under) < length (walked (link_of records) (length records) word))
leads_on records base word under step h =
    let falls = way_falls_within (link_of records) (length records) word under h.words base h.way h.short step in
    (record { words = falls.1.0; way = falls.1.1; short = falls.1.2 }, falls.0)

-- where no link leads on, it is the base page
pub leads_no_more : (records : Records) (base word : ℕ) → link_of records word ≡ None → LeadsTo records base word → word ≡ base
leads_no_more records base word none h = by h.words h.way
  where
    by : (ws : List ℕ) → Leads (link_of records) word ws base → word ≡ base
    by [] way = way.0
    by (w ∷ ws) way = absurd (no_next (sym none ∙ way.1.1))

-- a page rests on the same after records were added
pub still_rests : (bases : Bases) (old new : Records) (word : ℕ) → Extends old new → length old ≤ length new → Ends bases old word → base_under new word ≡ base_under old word
still_rests bases old new word kept more ends = by ends.0 ends.1.0 ends.1.1
  where
    by : (ws : List ℕ) (e : ℕ) → EndsAt bases old word ws e → base_under new word ≡ base_under old word
    by ws e h =
        ended_is (link_of new) (length new) word ws e (way_on old new kept word ws e h.limit h.way) (omega (arith, h.short, more))
        ∙ sym (ended_is (link_of old) (length old) word ws e h.way h.short)
