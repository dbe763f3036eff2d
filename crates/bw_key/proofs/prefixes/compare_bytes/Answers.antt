use Rattle.std.proofs.Common.{ℕ, sym, ap, ◌∙◌}
use Rattle.std.specs.Ordering.{nat_cmp}
use Rattle.bw_key.specs.Prefixes.{key_prefix}
use Rattle.bw_key.proofs.PrefixLemmas.{by_prefix}
use Rattle.bw_key.proofs.prefixes.compare_bytes.Goals as goal

pub returns-in_default : goal.returns-in_default
returns-in_default c =
    by_prefix c.args.left.now c.args.right.now c.cmp-2.result c.know_bytes.ensures c.know_bytes-2.ensures
    (ap (λ (n : ℕ). nat_cmp n (key_prefix c.args.right.now)) (sym c.prefix_of.ensures) ∙ ap (nat_cmp c.prefix_of.result) (sym c.prefix_of-2.ensures) ∙ sym c.cmp-2.ensures)
    c.in_default.not-Equal
