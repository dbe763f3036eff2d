use Rattle.std.proofs.Common.{ℕ, sym, ap, ◌∙◌}
use Rattle.std.specs.Ordering.{nat_cmp}
use Rattle.bw_key.specs.Prefixes.{key_prefix}
use Rattle.bw_key.proofs.PrefixLemmas.{by_prefix}
use Rattle.bw_key.proofs.prefixes.compare_prefixed.Goals as goal

pub returns-in_default : goal.returns-in_default
returns-in_default c =
    by_prefix c.args.left.now c.args.right.now c.cmp.result c.know_bytes.ensures c.know_bytes-2.ensures
    (ap (λ (n : ℕ). nat_cmp n (key_prefix c.args.right.now)) (sym c.requires.left) ∙ ap (nat_cmp c.args.left_prefix) (sym c.requires.right) ∙ sym c.cmp.ensures)
    c.in_default.not-Equal
