use Rattle.std.proofs.Common.{◌≡◌, sym, subst}
use Rattle.bw_delta.specs.declared.deltas.Delta.{Delta}
use Rattle.bw_level.specs.Changes.{change, plain}
use Rattle.bw_level.specs.Splits.{slot_entries}
use Rattle.bw_level.proofs.page_counts.count_over.Goals as goal

pub returns-in-Split : goal.returns-in-Split
returns-in-Split c = λ bases.
    subst (λ (d : Delta). c.count_split.result ≡ slot_entries (change bases d (plain c.args.base.now))) (sym c.in-Split.is) (c.count_split.ensures bases _)

pub returns-in-AddChild : goal.returns-in-AddChild
returns-in-AddChild c = λ bases.
    subst (λ (d : Delta). c.count_with_child.result ≡ slot_entries (change bases d (plain c.args.base.now))) (sym c.in-AddChild.is) (c.count_with_child.ensures bases _)
