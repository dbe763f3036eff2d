use Rattle.std.proofs.Common.{[], ◌∷◌, length, ap, arith}
use Rattle.std.proofs.lemmas.List.{length-append}
use Rattle.bw_shape.proofs.TidyLemmas.{leaf_level, within_bare, within_pass}
use Rattle.bw_shape.proofs.halving.part_next.Goals as goal

pub returns-then-not-is_over-clause-within : goal.returns-then-not-is_over-clause-within
returns-then-not-is_over-clause-within c =
    within_pass c.args.limits.now c.args.tree.now c.args.due.now.pages c.pass.new.self.pages c.args.page (c.pass.ensures.pages c.args.page c.requires.next) (λ leaf. c.is_over.ensures.within c.if-not-is_over.true leaf) c.requires.within

pub returns-then-not-is_over-clause-less : goal.returns-then-not-is_over-clause-less
returns-then-not-is_over-clause-less c =
    omega (arith, ap length (c.pass.ensures.pages c.args.page c.requires.next), length-append c.pass.new.self.pages (c.args.page ∷ []))

pub returns-in_default-clause-within : goal.returns-in_default-clause-within
returns-in_default-clause-within c =
    within_pass c.args.limits.now c.args.tree.now c.args.due.now.pages c.pass-in_default.new.self.pages c.args.page (c.pass-in_default.ensures.pages c.args.page c.requires.next)
    (λ leaf. let on = leaf_level c.args.tree.now.levels c.args.page leaf in absurd (c.in_default.ensures.level on.level (on.within, on.in_level))) c.requires.within

pub returns-in_default-clause-less : goal.returns-in_default-clause-less
returns-in_default-clause-less c =
    omega (arith, ap length (c.pass-in_default.ensures.pages c.args.page c.requires.next), length-append c.pass-in_default.new.self.pages (c.args.page ∷ []))

pub part_below-requires-clause-within : goal.part_below-requires-clause-within
part_below-requires-clause-within c =
    within_bare c.args.tree.now c.bare.new.tree c.args.due.now.pages c.args.page c.in_ok-bare.ensures.ok c.requires.next c.args.limits.now c.requires.within
