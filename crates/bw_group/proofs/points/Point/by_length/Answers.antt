use Rattle.std.proofs.Common.{◌≤◌, ◌⊎◌, inl, inr, length, ℕ, sym, ap, ◌∙◌, arith, leb-true}
use Rattle.std.specs.Ordering.{nat_cmp}
use Rattle.bw_key.proofs.PrefixLemmas.{lengths_stand}
use Rattle.bw_group.proofs.points.Point.by_length.Goals as goal
use Rattle.bw_group.proofs.points.Point.by_length.Goals.{then-self-le-PREFIX_LEN, else-self-le-PREFIX_LEN}

pub returns-then-other-le-PREFIX_LEN : goal.returns-then-other-le-PREFIX_LEN
returns-then-other-le-PREFIX_LEN c =
    let one = c.args.self.now in
    let other = c.args.other.now in
    let short : (length one.key.now ≤ 8) ⊎ (length other.key.now ≤ 8) = elim c.if-self-le-PREFIX_LEN.branch [
      | then-self-le-PREFIX_LEN w ↦ inl (omega (arith, one.long, w.if-self-le-PREFIX_LEN.true))
      | else-self-le-PREFIX_LEN w ↦ inr (omega (arith, other.long, leb-true _ _ (sym w.value-is ∙ c.if-other-le-PREFIX_LEN.true)))
    ] in
    c.cmp.ensures ∙ ap (λ (n : ℕ). nat_cmp n other.len) one.long ∙ ap (nat_cmp (length one.key.now)) other.long
    ∙ lengths_stand one.key.now other.key.now c.know_bytes.ensures c.know_bytes-2.ensures (sym one.alike ∙ c.requires ∙ other.alike) short
