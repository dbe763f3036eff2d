-- What no record changes of a page: where it begins, its level, and whether it was removed. So its base page tells that.
use Rattle.std.proofs.Common.{◌≡◌, ℕ, zero, suc, ◌<◌, ◌≤◌, List, [], ◌∷◌, length, map, inl, inr, ◌⊎◌, Some, refl, sym, ap, ◌∙◌, arith}
use Rattle.std.proofs.lemmas.Bool.{cases_lt}
use Rattle.std.proofs.lemmas.Option.{slice_get-get_or}
use Rattle.std.specs.Prelude.{slice_get, slice_index}
use Rattle.bw_key.specs.Order.{KeyBytes}
use Rattle.bw_delta.specs.Writes.{WriteView}
use Rattle.bw_delta.specs.declared.deltas.Delta.{Delta}
use Rattle.bw_delta.specs.declared.deltas.Delta.TheVariants.{Put, Split, Absorb, Removed, AddChild, DropChild}
use Rattle.bw_level.specs.Before.{low_at, removed_at}
use Rattle.bw_level.specs.Changes.{Bases, based, body_below, body_with_child, body_written, change}
use Rattle.bw_level.specs.Slots.{Slot, PageState, Body, Pairs, Children, Free, Gone, Live, level_of, slot_at, slot_level}
use Rattle.bw_level.specs.Walk.{walked}
use Rattle.bw_chain.specs.Chains.{Records, changed, deltas_at, link_of, slot_of_word, slots_of}
use Rattle.bw_chain.specs.Supports.{OwnBases, base_under}
use Rattle.bw_chain.proofs.ReadingLemmas.{slot_of_head}

-- the chain of a page that is there ends at the base page of its number
pub own_number : (heads : List ℕ) (bases : Bases) (records : Records) → OwnBases heads bases records → (p : ℕ) → p < length heads → p ≡ base_under records (slice_index heads p)
own_number heads bases records own p there = sym (own.number p (slice_index heads p) (slice_get-get_or heads p 0 there))

past_all : (f : ℕ → Slot) (heads : List ℕ) (p : ℕ) → length heads ≤ p → slot_at (map f heads) p ≡ Free
past_all f [] p le = refl
past_all f (h ∷ heads) zero le = absurd (omega arith)
past_all f (h ∷ heads) (suc p) le = past_all f heads p (omega arith)

none_past : (bases : Bases) (p : ℕ) → length bases ≤ p → based (slice_get bases p) ≡ Free
none_past [] p le = refl
none_past (b ∷ bases) zero le = absurd (omega arith)
none_past (b ∷ bases) (suc p) le = none_past bases p (omega arith)

-- what is the same of pages that begin at one key and have one level
module _ {X : Type 0} (f : Slot → X) (same : (s t : PageState) → t.low ≡ s.low → level_of t.body ≡ level_of s.body → f (Live t) ≡ f (Live s)) (bases : Bases) where
  written : (w : WriteView) (b : Body) → level_of (body_written w b) ≡ level_of b
  written w (Pairs pairs writes) = refl
  written w (Children level children) = refl

  cut : (k : KeyBytes) (b : Body) → level_of (body_below k b) ≡ level_of b
  cut k (Pairs pairs writes) = refl
  cut k (Children level children) = refl

  added : (k : KeyBytes) (child : ℕ) (b : Body) → level_of (body_with_child k child b) ≡ level_of b
  added k child (Pairs pairs writes) = refl
  added k child (Children level children) = refl

  kept : (d : Delta) (slot : Slot) → f (change bases d slot) ≡ f slot
  kept (Put w) Free = refl
  kept (Put w) (Gone l) = refl
  kept (Put w) (Live s) = same s (record s { body = body_written w s.body }) refl (written w s.body)
  kept (Split k to) Free = refl
  kept (Split k to) (Gone l) = refl
  kept (Split k to) (Live s) = same s (record s { high = Some k; side = Some to; body = body_below k s.body }) refl (cut k s.body)
  kept (Absorb base side) slot = refl
  kept (Removed left) slot = refl
  kept (AddChild k child) Free = refl
  kept (AddChild k child) (Gone l) = refl
  kept (AddChild k child) (Live s) = same s (record s { body = body_with_child k child s.body }) refl (added k child s.body)
  kept (DropChild k) slot = refl

  all_kept : (ds : List Delta) (slot : Slot) → f (changed bases ds slot) ≡ f slot
  all_kept [] slot = refl
  all_kept (d ∷ ds) slot = kept d (changed bases ds slot) ∙ all_kept ds slot

  of_base : (heads : List ℕ) (records : Records) → OwnBases heads bases records → (p : ℕ) → f (slot_at (slots_of heads bases records) p) ≡ f (based (slice_get bases p))
  of_base heads records own p = by (cases_lt p (length heads))
    where
      word : ℕ
      word = slice_index heads p

      by : (p < length heads) ⊎ (length heads ≤ p) → f (slot_at (slots_of heads bases records) p) ≡ f (based (slice_get bases p))
      by (inl there) =
          ap f (slot_of_head bases records heads p 0 there)
          ∙ all_kept (deltas_at records (walked (link_of records) (length records) word)) (based (slice_get bases (base_under records word)))
          ∙ ap (λ n. f (based (slice_get bases n))) (sym (own_number heads bases records own p there))
      by (inr past) = ap f (past_all (slot_of_word bases records) heads p past) ∙ sym (ap f (none_past bases p (omega (arith, past, own.count))))

pub low_of_base : (heads : List ℕ) (bases : Bases) (records : Records) → OwnBases heads bases records → (p : ℕ) → low_at (slot_at (slots_of heads bases records) p) ≡ low_at (based (slice_get bases p))
low_of_base heads bases records = of_base low_at (λ s t low level. ap (λ (k : KeyBytes). Some k) low) bases heads records

pub removed_of_base : (heads : List ℕ) (bases : Bases) (records : Records) → OwnBases heads bases records → (p : ℕ) → removed_at (slot_at (slots_of heads bases records) p) ≡ removed_at (based (slice_get bases p))
removed_of_base heads bases records = of_base removed_at (λ s t low level. refl) bases heads records

pub level_of_base : (heads : List ℕ) (bases : Bases) (records : Records) → OwnBases heads bases records → (p : ℕ) → slot_level (slot_at (slots_of heads bases records) p) ≡ slot_level (based (slice_get bases p))
level_of_base heads bases records = of_base slot_level (λ s t low level. level) bases heads records
