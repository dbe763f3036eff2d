use Rattle.std.proofs.Common.{[], ◌∷◌, length, ap, arith}
use Rattle.std.proofs.lemmas.List.{length-append}
use Rattle.bw_shape.proofs.AbsorbLemmas.{no_leaf}
use Rattle.bw_shape.proofs.TidyLemmas.{leaf_level, within_pass}
use Rattle.bw_shape.proofs.visits.visit.Goals as goal

pub returns-in_default-clause-within : goal.returns-in_default-clause-within
returns-in_default-clause-within c =
    within_pass c.args.limits.now c.args.tree.now c.args.due.now.pages c.pass.new.self.pages c.args.page (c.pass.ensures.pages c.args.page c.requires.next)
    (λ leaf. let on = leaf_level c.args.tree.now.levels c.args.page leaf in absurd (c.in_default.ensures.level on.level (on.within, on.in_level))) c.requires.within

pub returns-in_default-clause-less : goal.returns-in_default-clause-less
returns-in_default-clause-less c = omega (arith, ap length (c.pass.ensures.pages c.args.page c.requires.next), length-append c.pass.new.self.pages (c.args.page ∷ []))

pub returns-then-stands-level-clause-within : goal.returns-then-stands-level-clause-within
returns-then-stands-level-clause-within c =
    let tree = c.args.tree.now in
    within_pass c.args.limits.now tree c.args.due.now.pages c.put_off.new.self.pages c.args.page c.in_ok-put_off.ensures.ok
    (λ leaf. absurd (no_leaf tree tree.root c.know_levels.ensures.lawful c.args.page c.in-Some.stands c.in-Some.ensures.level (omega (arith, c.if-stands-level.true)) leaf)) c.requires.within

pub returns-then-stands-level-clause-less : goal.returns-then-stands-level-clause-less
returns-then-stands-level-clause-less c = omega (arith, ap length c.in_ok-put_off.ensures.ok, length-append c.put_off.new.self.pages (c.args.page ∷ []))

pub look-requires-clause-short : goal.look-requires-clause-short
look-requires-clause-short c =
    let tree = c.args.tree.now in
    λ leaf. absurd (no_leaf tree tree.root c.know_levels.ensures.lawful c.args.page c.in-Some.stands c.in-Some.ensures.level (omega (arith, c.if-stands-gt0.true)) leaf)
