-- A base page that goes leaves its page's identifier free.
use Rattle.std.proofs.Common.{inl, inr, ◌⊎◌, set, ◌≡◌, ℕ, ◌<◌, ◌^◌, true, false, List, [], ◌∷◌, length, Option, Some, None, refl, sym, ap, ◌∙◌, subst, arith}
use Rattle.std.proofs.lemmas.Bool.{cases_eq}
use Rattle.std.proofs.lemmas.List.{length-set}
use Rattle.std.specs.Borrow.{Bor}
use Rattle.std.specs.Prelude.{Decides, is_none, slice_get}
use Rattle.bw_page.specs.declared.pages.Page.{Page}
use Rattle.bw_page.specs.declared.pages.Page.TheVariants.{Leaf as LeafPage, Inner as InnerPage, Gone as GonePage}
use Rattle.bw_delta.specs.declared.deltas.Delta.{Delta}
use Rattle.bw_delta.specs.declared.deltas.Delta.TheVariants.{Put, Split, Absorb, Removed, AddChild, DropChild}
use Rattle.bw_level.specs.Changes.{Bases, based, body_below, body_with_child, body_written, change, page_changed, plain}
use Rattle.bw_chain.specs.Chains.{AllEnd, Records, Ends, changed, deltas_at, link_of, slot_of_word, slots_of}
use Rattle.bw_level.specs.Freeing.{IsFreed}
use Rattle.bw_level.specs.Slots.{Slot, PageState, Free, Gone, Live}
use Rattle.bw_chain.specs.Supports.{OwnBases, base_under}
use Rattle.bw_level.specs.Turns.{plain_at}
use Rattle.bw_level.specs.Walk.{walked}
use Rattle.bw_chain.proofs.AdditionLemmas.{same_slot, slot_here}
use Rattle.bw_chain.proofs.BaseLemmas.{get_set_other, get_set_same}
use Rattle.bw_chain.proofs.ChainLemmas.{no_link, no_record, on_base}
use Rattle.bw_chain.proofs.InPlaceLemmas.{under_plain}
use Rattle.bw_chain.proofs.SupportLemmas.{base_within, ends_within, page_kept}

one : {x y : ℕ} → Some x ≡ Some y → x ≡ y
one e = cc

-- a base page is no free identifier
page_taken : (page : Page) → plain page ≡ Free → ⊥
page_taken (LeafPage l) e = cc
page_taken (InnerPage p) e = cc
page_taken (GonePage g) e = cc

pub vacant_at : (o : Option (Bor Page)) (slot : Slot) → plain_at o ≡ slot → Decides (is_none o) (slot ≡ Free)
vacant_at None slot is = (λ e. sym is, λ e. refl)
vacant_at (Some page) slot is = (λ e. absurd (different e), λ e. absurd (page_taken page.now (is ∙ e)))
  where
    different : false ≡ true → ⊥
    different e = cc

-- nothing is made of no page
pub free_changed : (bases : Bases) (ds : List Delta) → changed bases ds Free ≡ Free
free_changed bases [] = refl
free_changed bases (Put w ∷ ds) = ap (change bases (Put w)) (free_changed bases ds)
free_changed bases (Split k to ∷ ds) = ap (change bases (Split k to)) (free_changed bases ds)
free_changed bases (Absorb base side ∷ ds) = free_changed bases ds
free_changed bases (Removed left ∷ ds) = free_changed bases ds
free_changed bases (AddChild k child ∷ ds) = ap (change bases (AddChild k child)) (free_changed bases ds)
free_changed bases (DropChild k ∷ ds) = free_changed bases ds

-- and what is no page was made of none
no_page_changed : (f : PageState → PageState) (slot : Slot) → page_changed f slot ≡ Free → slot ≡ Free
no_page_changed f Free e = e
no_page_changed f (Gone l) e = e
no_page_changed f (Live s) e = absurd (taken e)
  where
    taken : {s : PageState} → Live s ≡ Free → ⊥
    taken e = cc

pub free_under : (bases : Bases) (ds : List Delta) (slot : Slot) → changed bases ds slot ≡ Free → slot ≡ Free
free_under bases [] slot e = e
free_under bases (d ∷ ds) slot e = free_under bases ds slot (by d e)
  where
    by : (d : Delta) → change bases d (changed bases ds slot) ≡ Free → changed bases ds slot ≡ Free
    by (Put w) e = no_page_changed (λ s. record s { body = body_written w s.body }) (changed bases ds slot) e
    by (Split k to) e = no_page_changed (λ s. record s { high = Some k; side = Some to; body = body_below k s.body }) (changed bases ds slot) e
    by (Absorb base side) e = e
    by (Removed left) e = e
    by (AddChild k child) e = no_page_changed (λ s. record s { body = body_with_child k child s.body }) (changed bases ds slot) e
    by (DropChild k) e = e

-- so a page whose base page is vacant has a free identifier
pub vacant_free : (heads : List ℕ) (bases : Bases) (records : Records) → OwnBases heads bases records → (p word : ℕ) → slice_get heads p ≡ Some word → based (slice_get bases p) ≡ Free → slot_of_word bases records word ≡ Free
vacant_free heads bases records own p word at vacant =
    let ds = deltas_at records (walked (link_of records) (length records) word) in
    ap (λ n. changed bases ds (based (slice_get bases n))) (own.number p word at) ∙ ap (changed bases ds) vacant ∙ free_changed bases ds

module _ (heads : List ℕ) (bases : Bases) (records : Records) (ends : AllEnd bases records heads) (own : OwnBases heads bases records) (p word : ℕ) (at : slice_get heads p ≡ Some word) (low : word < 2 ^ 32) where
  abbrev pub bases_but : Bases
  bases_but = set bases p None

  size : length bases_but ≡ length bases
  size = length-set bases p None

  -- the page's mapping word is its number
  here : word ≡ p
  here = sym (under_plain records word low) ∙ own.number p word at

  within : p < length bases
  within = omega (arith, here, under_plain records word low, base_within bases records word (ends p word at))

  -- the page's chain is its base page's number alone
  alone : Ends bases_but records word
  alone = ([], (word, record { way = (refl, sym (no_link records word low)); short = omega arith; within = omega (arith, here, within, size); limit = low; shaped = tt }))

  -- no other page rests on that base page
  kept_under : (q w : ℕ) → (q ≡ p → ⊥) → slice_get heads q ≡ Some w → slice_get bases_but (base_under records w) ≡ slice_get bases (base_under records w)
  kept_under q w other at_q = get_set_other bases p (base_under records w) None (λ same. other (sym (own.number q w at_q) ∙ same))

  pub vacant_end : AllEnd bases_but records heads
  vacant_end q w at_q = by (cases_eq q p)
    where
      by : (q ≡ p) ⊎ (q ≡ p → ⊥) → Ends bases_but records w
      by (inl same) = subst (Ends bases_but records) (one (sym at ∙ ap (slice_get heads) (sym same) ∙ at_q)) alone
      by (inr other) = ends_within bases bases_but records w (omega (arith, size)) (kept_under q w other at_q) (ends q w at_q)

  pub vacant_own : OwnBases heads bases_but records
  vacant_own = record { count = own.count ∙ sym size; number = own.number }

  pub vacated : IsFreed (slots_of heads bases records) (slots_of heads bases_but records) p
  vacated = record {
    free =
        slot_here (slot_of_word bases_but records) heads p word at
        ∙ on_base bases_but records word (vacant_end p word at) (no_record records word low)
        ∙ ap (λ n. based (slice_get bases_but n)) here
        ∙ ap based (get_set_same bases p None within);
    others = λ q other. same_slot (slot_of_word bases records) (slot_of_word bases_but records) heads heads q refl
        (λ w at_q. page_kept bases bases_but records w (kept_under q w other at_q));
  }
