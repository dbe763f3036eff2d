-- Left neighbours of removed pages: what base pages say of them is what the slots say.
use Rattle.std.proofs.Common.{get_or, ◌≡◌, ℕ, zero, suc, ◌<◌, Bool, List, [], ◌∷◌, length, Option, Some, None, refl, sym, ap, ◌∙◌, arith}
use Rattle.std.proofs.lemmas.List.{length-map}
use Rattle.std.proofs.lemmas.Option.{slice_get-get_or}
use Rattle.std.specs.Prelude.{Decides, slice_get}
use Rattle.bw_page.specs.declared.pages.Page.{Page}
use Rattle.bw_page.specs.declared.pages.Page.TheVariants.{Leaf as LeafPage, Inner as InnerPage, Gone as GonePage}
use Rattle.bw_page.specs.declared.pages.RemovedPage.{RemovedPage}
use Rattle.bw_delta.specs.declared.deltas.Delta.{Delta}
use Rattle.bw_delta.specs.declared.deltas.Delta.TheVariants.{Put, Split, Absorb, Removed, AddChild, DropChild}
use Rattle.bw_level.specs.Changes.{Bases, based, change}
use Rattle.bw_chain.specs.Chains.{Records, changed, deltas_at, link_of, slot_of_word, slots_of}
use Rattle.bw_chain.specs.Removed.{HasAllRemoved, IsRemovedInto}
use Rattle.bw_level.specs.Slots.{Slot, Free, Gone, Live, left_of, left_of_slot}
use Rattle.bw_chain.specs.Supports.{OwnBases}
use Rattle.bw_level.specs.Walk.{walked}
use Rattle.bw_chain.proofs.ReadingLemmas.{slot_of_head}
use Rattle.bw_level.proofs.RouteLemmas.{held}
use Rattle.bw_look.specs.RemovedPages.{HasEachRemoved}

no_left : {p : ℕ} → None ≡ Some p → ⊥
no_left e = cc

one : {p q : ℕ} → Some p ≡ Some q → p ≡ q
one e = cc

-- records leave a page with a left link as it is, and give no other one
left_changed : (bases : Bases) (ds : List Delta) (slot : Slot) → left_of_slot (changed bases ds slot) ≡ left_of_slot slot
left_changed bases [] slot = refl
left_changed bases (d ∷ ds) slot = by d (changed bases ds slot) ∙ left_changed bases ds slot
  where
    by : (d : Delta) (s : Slot) → left_of_slot (change bases d s) ≡ left_of_slot s
    by (Put w) Free = refl
    by (Put w) (Gone g) = refl
    by (Put w) (Live s) = refl
    by (Split k to) Free = refl
    by (Split k to) (Gone g) = refl
    by (Split k to) (Live s) = refl
    by (Absorb base side) s = refl
    by (Removed left) s = refl
    by (AddChild k child) Free = refl
    by (AddChild k child) (Gone g) = refl
    by (AddChild k child) (Live s) = refl
    by (DropChild k) s = refl

-- a base page with a left link is a removed one
left_based : (o : Option (Option Page)) (p : ℕ) → left_of_slot (based o) ≡ Some p → (g : RemovedPage) × ((o ≡ Some (Some (GonePage g))) × (g.left ≡ p))
left_based None p e = absurd (no_left e)
left_based (Some None) p e = absurd (no_left e)
left_based (Some (Some (LeafPage l))) p e = absurd (no_left e)
left_based (Some (Some (InnerPage i))) p e = absurd (no_left e)
left_based (Some (Some (GonePage g))) p e = (g, (refl, one e))

module _ (heads : List ℕ) (bases : Bases) (records : Records) (own : OwnBases heads bases records) where
  -- a page has the left link of the base page of its number
  left_read : (q : ℕ) → q < length heads → left_of (slots_of heads bases records) q ≡ left_of_slot (based (slice_get bases q))
  left_read q lt =
      let word : ℕ = get_or heads q 0 in
      let ds = deltas_at records (walked (link_of records) (length records) word) in
      ap left_of_slot (slot_of_head bases records heads q 0 lt)
      ∙ ap (λ n. left_of_slot (changed bases ds (based (slice_get bases n)))) (own.number q word (slice_get-get_or heads q 0 lt))
      ∙ left_changed bases ds (based (slice_get bases q))

  there : (q p : ℕ) → left_of (slots_of heads bases records) q ≡ Some p → q < length heads
  there q p left = omega (arith, held (slots_of heads bases records) q (λ free. no_left (sym (ap left_of_slot free) ∙ left)), length-map heads (slot_of_word bases records))

  -- so the removed base pages tell which pages were removed
  pub each_removed : (numbers : List ℕ) → HasAllRemoved bases numbers → HasEachRemoved (slots_of heads bases records) numbers
  each_removed numbers all p removed is =
      let left = ap left_of_slot is in
      let at = left_based (slice_get bases p) removed.left (sym (left_read p (there p removed.left left)) ∙ left) in
      all p at.0 at.1.0

  within : (bs : Bases) (n : ℕ) (page : Option Page) → slice_get bs n ≡ Some page → n < length bs
  within [] n page e = absurd (clash e)
    where
      clash : None ≡ Some page → ⊥
      clash e = cc
  within (x ∷ bs) zero page e = omega arith
  within (x ∷ bs) (suc n) page e = omega (arith, within bs n page e)

  -- so a look at the removed base pages tells whose left neighbour a page is
  pub decides_left : (p : ℕ) (answer : Bool) → Decides answer ((n : ℕ) × IsRemovedInto bases p n) → Decides answer ((q : ℕ) × (left_of (slots_of heads bases records) q ≡ Some p))
  decides_left p answer tells = (
    λ yes.
        let w = tells.0 yes in
        let lt : w.0 < length heads = omega (arith, own.count, within bases w.0 (Some (GonePage w.1.0)) w.1.1.0) in
        (w.0, left_read w.0 lt ∙ ap (λ (o : Option (Option Page)). left_of_slot (based o)) w.1.1.0 ∙ ap Some w.1.1.1),
    λ w.
        let g = left_based (slice_get bases w.0) p (sym (left_read w.0 (there w.0 p w.1)) ∙ w.1) in
        tells.1 (w.0, (g.0, g.1)),
  )
