use Rattle.std.proofs.Common.{◌<◌, ◌≤◌, ◌⊎◌, inl, inr, length, ℕ, ◌∙◌}
use Rattle.bw_key.proofs.PrefixLemmas.{lengths_stand}
use Rattle.bw_key.proofs.prefixes.compare_alike.Goals as goal

-- which of the keys ends within the prefix
ends_within : (a b : ℕ) → (a ≤ 8) ⊎ ((8 < a) × (b ≤ 8)) → (a ≤ 8) ⊎ (b ≤ 8)
ends_within a b (inl le) = inl le
ends_within a b (inr both) = inr both.1

pub returns-then-right-le-PREFIX_LEN : goal.returns-then-right-le-PREFIX_LEN
returns-then-right-le-PREFIX_LEN c =
    let short : (length c.args.left.now ≤ 8) ⊎ (length c.args.right.now ≤ 8) = ends_within _ _ c.if-right-le-PREFIX_LEN.either in
    c.cmp.ensures ∙ lengths_stand c.args.left.now c.args.right.now c.know_bytes.ensures c.know_bytes-2.ensures c.requires short
