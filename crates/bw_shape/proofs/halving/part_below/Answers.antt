use Rattle.std.proofs.Common.{◌∙◌, ◌-◌, sym, subst, ap, arith, length, [], ◌∷◌}
use Rattle.std.proofs.lemmas.List.{length-append}
use Rattle.bw_shape.specs.Limits.{AreWithinBut}
use Rattle.bw_shape.specs.Tidying.{DueView}
use Rattle.bw_shape.proofs.PartLemmas.{passed_part, stand_first, stand_on}
use Rattle.bw_shape.proofs.TidyLemmas.{bare_still}
use Rattle.bw_shape.proofs.halving.part_below.Goals as goal

pub part_halves-requires-clause-stand : goal.part_halves-requires-clause-stand
part_halves-requires-clause-stand c =
    let tree = c.args.tree.now in
    let due = c.set_unfinished.new.self in
    let next = c.requires.next in
    let same = (ap (λ (d : DueView). d.pages) c.set_unfinished.ensures) in
    let others = c.len-others.result - 1 in
    let was = same ∙ next.1 in
    let passed = passed_part tree tree c.part.new.tree due c.part.new.due c.args.page c.args.level c.in_ok-part.field-0 c.requires.page (bare_still tree c.args.page c.requires.none c.requires.plain) c.in_ok-part.ensures.ok in
    stand_on tree c.part.new.tree due c.part.new.due c.args.page c.args.level others passed
    (omega (arith, c.len-others.ensures, ap length was, ap length same, length-append next.0 (c.args.page ∷ [])))
    (stand_first tree due.pages c.args.page c.args.level others next.0 was (omega (arith, c.len-others.ensures, ap length same)) c.requires.page)

pub returns-in_err-finish-clause-within : goal.returns-in_err-finish-clause-within
returns-in_err-finish-clause-within c = c.in_err-finish.ensures.within c.args.limits.now c.in_ok-part_halves.ensures.within

pub returns-clause-within : goal.returns-clause-within
returns-clause-within c =
    subst (AreWithinBut c.args.limits.now c.finish.new.tree) (sym (ap (λ (d : DueView). d.pages) c.set_unfinished-2.ensures)) (c.in_ok-finish.ensures.within c.args.limits.now c.in_ok-part_halves.ensures.within)
