use Rattle.std.proofs.Common.{[], ◌∷◌, length, sym, subst, ap, arith}
use Rattle.std.proofs.lemmas.List.{length-append}
use Rattle.bw_shape.specs.Limits.{AreWithinBut}
use Rattle.bw_shape.proofs.TidyLemmas.{within_bare, within_pass}
use Rattle.bw_shape.proofs.absorbing.merge.Goals as goal

pub absorbing-requires : goal.absorbing-requires
absorbing-requires c = c.know_records.ensures.there c.args.page (record { level = c.args.level; within = c.requires.page.0; in_level = c.requires.page.1 })

pub returns-in_default-clause-within : goal.returns-in_default-clause-within
returns-in_default-clause-within c =
    within_pass c.args.limits.now c.args.tree.now c.args.due.now.pages c.pass.new.self.pages c.args.page (c.pass.ensures.pages c.args.page c.requires.next) c.requires.leaf c.requires.within

pub returns-in_default-clause-less : goal.returns-in_default-clause-less
returns-in_default-clause-less c = omega (arith, ap length (c.pass.ensures.pages c.args.page c.requires.next), length-append c.pass.new.self.pages (c.args.page ∷ []))

pub returns-in_err-lose_left-clause-within : goal.returns-in_err-lose_left-clause-within
returns-in_err-lose_left-clause-within c = c.in_err-lose_left.ensures.within c.args.due.now.pages c.requires.within

pub returns-in_err-bare-clause-within : goal.returns-in_err-bare-clause-within
returns-in_err-bare-clause-within c =
    subst (λ t. AreWithinBut c.args.limits.now t c.args.due.now.pages) (sym c.in_err-bare.ensures.err) (c.in_ok-lose_left.ensures.within c.args.due.now.pages c.requires.within)

pub absorb_next-requires-clause-within : goal.absorb_next-requires-clause-within
absorb_next-requires-clause-within c =
    within_bare c.lose_left.new.tree c.bare.new.tree c.args.due.now.pages c.args.page c.in_ok-bare.ensures.ok c.requires.next c.args.limits.now (c.in_ok-lose_left.ensures.within c.args.due.now.pages c.requires.within)
