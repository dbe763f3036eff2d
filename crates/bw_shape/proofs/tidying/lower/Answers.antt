use Rattle.std.proofs.Common.{◌∙◌, ap}
use Rattle.bw_shape.specs.Tidying.{DueView}
use Rattle.bw_shape.proofs.AbsorbLemmas.{tidy_on}
use Rattle.bw_shape.proofs.tidying.lower.Goals as goal

pub loop-preserved : goal.loop-preserved
loop-preserved c = record {
  tidy = tidy_on c.args.tree.now c.loop.tree c.lower_once.new.tree c.loop.invariant.tidy
      (record { holds = c.in_ok-lower_once.ensures.holds; within = c.in_ok-lower_once.ensures.within });
  due = c.in_ok-lower_once.ensures.ok ∙ c.loop.invariant.due;
}

pub returns-in_err-lower_once-clause-within : goal.returns-in_err-lower_once-clause-within
returns-in_err-lower_once-clause-within c =
    (tidy_on c.args.tree.now c.loop.tree c.lower_once.new.tree c.loop.invariant.tidy
    (record { holds = c.in_err-lower_once.ensures.holds; within = c.in_err-lower_once.ensures.within })).within

pub returns-in_err-lower_once-clause-pages : goal.returns-in_err-lower_once-clause-pages
returns-in_err-lower_once-clause-pages c = c.in_err-lower_once.ensures.pages ∙ ap (λ (d : DueView). d.pages) c.loop.invariant.due

pub returns-clause-within : goal.returns-clause-within
returns-clause-within c =
    (tidy_on c.args.tree.now c.loop.tree c.lower_once.new.tree c.loop.invariant.tidy
    (record { holds = c.in_ok-lower_once.ensures.holds; within = c.in_ok-lower_once.ensures.within })).within

pub returns-clause-ok : goal.returns-clause-ok
returns-clause-ok c = c.in_ok-lower_once.ensures.ok ∙ c.loop.invariant.due

pub returns-clause-pages : goal.returns-clause-pages
returns-clause-pages c = c.in_ok-lower_once.ensures.pages ∙ ap (λ (d : DueView). d.pages) c.loop.invariant.due
