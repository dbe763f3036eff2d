use Rattle.std.proofs.Common.{[], ◌∷◌, length, sym, subst, ap, arith}
use Rattle.std.proofs.lemmas.List.{length-append}
use Rattle.bw_shape.specs.Limits.{AreWithinBut}
use Rattle.bw_shape.specs.Tidying.{DueView}
use Rattle.bw_shape.proofs.TidyLemmas.{within_bare, within_pass}
use Rattle.bw_shape.proofs.visits.visit_leaf.Goals as goal

pub returns-then-not-is_due-clause-within : goal.returns-then-not-is_due-clause-within
returns-then-not-is_due-clause-within c =
    within_pass c.args.limits.now c.args.tree.now c.args.due.now.pages c.pass.new.self.pages c.args.page (c.pass.ensures.pages c.args.page c.requires.next) (c.requires.fits c.if-not-is_due.true) c.requires.within

pub returns-then-not-is_due-clause-less : goal.returns-then-not-is_due-clause-less
returns-then-not-is_due-clause-less c = omega (arith, ap length (c.pass.ensures.pages c.args.page c.requires.next), length-append c.pass.new.self.pages (c.args.page ∷ []))

pub look-requires-clause-within : goal.look-requires-clause-within
look-requires-clause-within c =
    subst (AreWithinBut c.args.limits.now c.bare.new.tree) (sym (ap (λ (d : DueView). d.pages) c.in_ok-begin_leaf.ensures.rest))
    (within_bare c.args.tree.now c.bare.new.tree c.args.due.now.pages c.args.page c.in_ok-bare.ensures.ok c.requires.next c.args.limits.now c.requires.within)

pub look-requires-clause-short : goal.look-requires-clause-short
look-requires-clause-short c = λ leaf. omega (arith, ap length (c.know_records.ensures.bare c.args.page c.in_ok-bare.ensures.ok.plain))
