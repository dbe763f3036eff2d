use Rattle.std.proofs.Common.{◌≡◌, ℕ, true, inl, inr, Some, ap, sym}
use Rattle.bw_delta.specs.declared.deltas.Delta.{Delta}
use Rattle.bw_chain.specs.Restructuring.{is_told}
use Rattle.bw_chain.proofs.InPlaceLemmas.{told_base}
use Rattle.bw_chain.proofs.chains.Chains.changed_base.Goals as goal

abbrev told : ℕ → Delta → Type 0
told number d = is_told (Some (d, number)) ≡ true

pub returns-in-Absorb-clause-same : goal.returns-in-Absorb-clause-same
returns-in-Absorb-clause-same c =
    let d = c.in_ok-delta.delta.now in
    let n = c.in_ok-delta.number in
    let is : told n d = elim c.in-Absorb.is [
      | inl absorb ↦ ap (λ (d : Delta). is_told (Some (d, n))) absorb.2
      | inr drop ↦ ap (λ (d : Delta). is_told (Some (d, n))) drop.1
    ] in
    told_base c.args.self.now c.args.head n d c.requires.ends (sym c.in_ok-delta.ensures) is c.requires.sound

pub returns-in-Absorb-2-clause-same : goal.returns-in-Absorb-2-clause-same
returns-in-Absorb-2-clause-same c =
    let d = c.in_ok-delta.delta.now in
    let n = c.in_ok-delta.number in
    let is : told n d = elim c.in-Absorb.is [
      | inl absorb ↦ ap (λ (d : Delta). is_told (Some (d, n))) absorb.2
      | inr drop ↦ ap (λ (d : Delta). is_told (Some (d, n))) drop.1
    ] in
    told_base c.args.self.now c.args.head n d c.requires.ends (sym c.in_ok-delta.ensures) is c.requires.sound
