use Rattle.std.proofs.Common.{T, [], arith}
use Rattle.std.specs.Option.{option_copied}
use Rattle.bw_model.specs.Contents.{is_below_end}
use Rattle.bw_group.specs.Points.{Entry}
use Rattle.bw_group.proofs.Groups.{point_of}
use Rattle.bw_group.proofs.HomeRuns.{run_more, run_one, is_under}
use Rattle.bw_group.proofs.homes.run_end.Goals as goal

pub loop-place-init : goal.loop-place-init
loop-place-init c =
    let any = point_of [] 0 in
    run_one (λ (e : Entry). T (is_below_end (option_copied c.args.end) e.0)) c.args.points.now c.args.start any c.requires.start (c.requires.first any)

pub loop-place-preserved : goal.loop-place-preserved
loop-place-preserved c =
    run_more (λ (e : Entry). T (is_below_end (option_copied c.args.end) e.0)) c.args.points.now c.args.start c.loop-place.place c.index-points-place.result (omega (arith, c.loop-place.auto.place)) c.loop-place-test.true c.index-points-place.is
    (is_under c.is_below.result _ c.is_below.ensures c.if-not-is_below.false) c.loop-place.invariant
