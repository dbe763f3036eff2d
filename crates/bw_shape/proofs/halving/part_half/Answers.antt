use Rattle.bw_shape.proofs.PartLemmas.{passed_on, passed_part}
use Rattle.bw_shape.proofs.TidyLemmas.{within_bare, within_pass}
use Rattle.bw_shape.proofs.halving.part_half.Goals as goal

pub returns-then-not-is_over-clause-within : goal.returns-then-not-is_over-clause-within
returns-then-not-is_over-clause-within c =
    within_pass c.args.limits.now c.args.tree.now c.args.due.now.pages c.pass.new.self.pages c.args.page (c.pass.ensures.pages c.args.page c.requires.next) (λ leaf. c.is_over.ensures.within c.if-not-is_over.true leaf) c.requires.within

pub returns-then-not-is_over-clause-ok : goal.returns-then-not-is_over-clause-ok
returns-then-not-is_over-clause-ok c =
    passed_on c.args.tree.now c.args.due.now c.pass.new.self c.args.page c.args.level (c.pass.ensures.pages c.args.page c.requires.next)

pub part-requires-clause-within : goal.part-requires-clause-within
part-requires-clause-within c =
    within_bare c.args.tree.now c.bare.new.tree c.args.due.now.pages c.args.page c.in_ok-bare.ensures.ok c.requires.next c.args.limits.now c.requires.within

pub returns-clause-ok : goal.returns-clause-ok
returns-clause-ok c =
    passed_part c.args.tree.now c.bare.new.tree c.part.new.tree c.args.due.now c.part.new.due c.args.page c.args.level c.in_ok-part.field-0 c.requires.page c.in_ok-bare.ensures.ok c.in_ok-part.ensures.ok
