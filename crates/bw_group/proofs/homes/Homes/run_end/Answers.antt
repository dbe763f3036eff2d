use Rattle.std.proofs.Common.{◌≡◌, [], sym, ap, ◌∙◌, arith}
use Rattle.bw_group.specs.Homes.{HomesView, number_of}
use Rattle.bw_group.specs.Points.{Entry}
use Rattle.bw_group.specs.declared.points.Point.{Point}
use Rattle.bw_group.proofs.Groups.{point_of}
use Rattle.bw_group.proofs.NumberLemmas.{number_at, number_there}
use Rattle.bw_group.proofs.HomeRuns.{run_more, run_one}
use Rattle.bw_group.proofs.homes.Homes.run_end.Goals as goal

pub loop-end-init : goal.loop-end-init
loop-end-init c =
    let any = point_of [] 0 in
    run_one (λ (e : Entry). number_of c.args.self.now e.1 ≡ c.args.number) c.args.points.now c.args.start any c.requires.start (c.requires.first any)

pub bounds-numbers-points : goal.bounds-numbers-points
bounds-numbers-points c =
    number_there c.args.self.now c.as_slice-numbers.result.now c.args.points.now c.loop-end.end c.index-points-end.result (c.as_slice-numbers.ensures ∙ ap (λ (v : HomesView). v.numbers) c.self.view_is) c.loop-end-test.true c.index-points-end.is c.requires.places

pub loop-end-preserved : goal.loop-end-preserved
loop-end-preserved c =
    let homes = c.args.self.now in
    let p = c.index-points-end.result in
    let read = number_at homes c.as_slice-numbers.result.now c.args.points.now c.loop-end.end p (c.as_slice-numbers.ensures ∙ ap (λ (v : HomesView). v.numbers) c.self.view_is) c.loop-end-test.true c.index-points-end.is p c.requires.places in
    run_more (λ (e : Entry). number_of homes e.1 ≡ c.args.number) c.args.points.now c.args.start c.loop-end.end p (omega (arith, c.loop-end.auto.end)) c.loop-end-test.true c.index-points-end.is
    (ap (λ (q : Point). number_of homes q.place) c.index-points-end.is ∙ read ∙ c.if-other-number.false) c.loop-end.invariant

pub returns-then-other-number-clause-whole : goal.returns-then-other-number-clause-whole
returns-then-other-number-clause-whole c = λ lt d same.
    let read = number_at c.args.self.now c.as_slice-numbers.result.now c.args.points.now c.loop-end.end c.index-points-end.result (c.as_slice-numbers.ensures ∙ ap (λ (v : HomesView). v.numbers) c.self.view_is) c.loop-end-test.true c.index-points-end.is d c.requires.places in
    c.if-other-number.true (sym read ∙ same)
