-- What a change makes of a page.
use Rattle.std.proofs.Common.{inl, inr, ◌⊎◌, ◌≡◌, ℕ, Option, ap}
use Rattle.bw_key.specs.Order.{KeyBytes}
use Rattle.bw_delta.specs.declared.deltas.Delta.{Delta}
use Rattle.bw_delta.specs.declared.deltas.Delta.TheVariants.{Absorb, DropChild}
use Rattle.bw_level.specs.Slots.{Slot}
use Rattle.bw_level.specs.Changes.{Bases, change}

-- a record of what the base page has already leaves the page as it is
pub as_it_is : (bases : Bases) (d : Delta) (slot : Slot) →
    ((base : ℕ) × (side : Option ℕ) × (d ≡ Absorb base side)) ⊎ ((sep : KeyBytes) × (d ≡ DropChild sep)) → change bases d slot ≡ slot
as_it_is bases d slot (inl absorbed) = ap (λ (e : Delta). change bases e slot) absorbed.2
as_it_is bases d slot (inr dropped) = ap (λ (e : Delta). change bases e slot) dropped.1
