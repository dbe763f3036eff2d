use Rattle.std.proofs.Common.{◌+◌, ◌<◌, length, arith, sym, ap, ◌∙◌, subst}
use Rattle.bw_level.specs.Searches.{IsStretch}
use Rattle.bw_level.specs.Targets.{lies_from}
use Rattle.bw_level.proofs.GallopLemmas.{stretch_before, stretch_to_end}
use Rattle.bw_level.proofs.target.Target.stretch.Goals as goal

pub returns-then-next-len : goal.returns-then-next-len
returns-then-next-len c =
    subst (λ n. IsStretch c.args.self c.args.children.now (c.loop-from.last + 1) n) (sym c.len-then-next-len.ensures.value)
    (stretch_to_end c.args.self c.args.children.now c.requires.sorted c.loop-from.last c.loop-from.invariant.within c.loop-from.invariant.from)

pub returns-then-not-lies_from : goal.returns-then-not-lies_from
returns-then-not-lies_from c =
    let es = c.args.children.now in
    let next = c.saturating_add-next.result in
    let there : next < length es = omega arith in
    stretch_before c.args.self es c.requires.sorted c.loop-from.last next (omega arith) there c.loop-from.invariant.from
    (λ d. ap (lies_from c.args.self) (sym (c.separator.ensures d)) ∙ sym c.lies_from.ensures ∙ c.if-not-lies_from.true)
