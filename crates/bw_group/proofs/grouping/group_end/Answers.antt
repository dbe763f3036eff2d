use Rattle.std.proofs.Common.{◌≡◌, ℕ, length, ◌-◌, take, drop, get_or, subst, arith}
use Rattle.bw_group.proofs.PointGroups.{IsOfKey, group_more, group_one, still_of_key, of_other_key}
use Rattle.bw_group.proofs.grouping.group_end.Goals as goal

pub loop-end-init : goal.loop-end-init
loop-end-init c = λ d. group_one c.args.points.now c.args.start d c.requires

pub loop-end-preserved : goal.loop-end-preserved
loop-end-preserved c = λ d.
    group_more (get_or c.args.points.now c.args.start d).key.now c.args.points.now c.args.start c.loop-end.end c.index-points-end.result (omega (arith, c.loop-end.auto.end)) c.loop-end-test.true c.index-points-end.is
    (still_of_key c.args.points.now c.args.start c.loop-end.end c.index-points-end.result c.index-points-start.result d c.differs.result c.requires c.index-points-end.is c.index-points-start.is c.differs.ensures c.if-differs.false)
    (c.loop-end.invariant d)

pub returns-clause-same : goal.returns-clause-same
returns-clause-same c = λ d.
    let at_end : c.loop-end.end ≡ length c.args.points.now = omega (arith, c.loop-end-test.false, c.loop-end.auto.end-end, c.requires) in
    subst (λ (n : ℕ). IsOfKey (get_or c.args.points.now c.args.start d).key.now (take (n - c.args.start) (drop c.args.start c.args.points.now))) at_end (c.loop-end.invariant d)

pub returns-then-differs-clause-whole : goal.returns-then-differs-clause-whole
returns-then-differs-clause-whole c = λ lt d.
    of_other_key c.args.points.now c.args.start c.loop-end.end c.index-points-end.result c.index-points-start.result d c.differs.result c.requires c.loop-end-test.true c.index-points-end.is c.index-points-start.is c.differs.ensures c.if-differs.true
