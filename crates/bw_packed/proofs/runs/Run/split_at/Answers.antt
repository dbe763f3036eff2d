use Rattle.std.proofs.Common.{◌∙◌, ap, arith, drop, take}
use Rattle.bw_packed.proofs.RunLemmas.{as_many_in_run, back_of_run, front_of_run}
use Rattle.bw_packed.proofs.runs.Run.split_at.Goals as goal

pub returns-clause-front : goal.returns-clause-front
returns-clause-front c =
    c.new-front.ensures
    ∙ front_of_run c.self.inside.pairs.now c.self.inside.start c.self.inside.end c.args.middle
    (omega (arith, c.requires, as_many_in_run c.self.inside.pairs.now c.self.inside.start c.self.inside.end c.args.self.now c.self.invariant.rising c.self.invariant.within c.self.view_is))
    ∙ ap (take c.args.middle) c.self.view_is

pub returns-clause-back : goal.returns-clause-back
returns-clause-back c =
    c.new.ensures
    ∙ back_of_run c.self.inside.pairs.now c.self.inside.start c.self.inside.end c.args.middle
    (omega (arith, c.requires, c.self.invariant.rising, as_many_in_run c.self.inside.pairs.now c.self.inside.start c.self.inside.end c.args.self.now c.self.invariant.rising c.self.invariant.within c.self.view_is))
    ∙ ap (drop c.args.middle) c.self.view_is
