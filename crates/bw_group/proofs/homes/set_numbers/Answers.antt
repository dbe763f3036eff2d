use Rattle.std.proofs.Common.{◌<◌, length, arith}
use Rattle.bw_group.proofs.PointGroups.{entry_holds}
use Rattle.bw_group.proofs.homes.set_numbers.Goals as goal

pub offset_bounds-numbers-point : goal.offset_bounds-numbers-point
offset_bounds-numbers-point c =
    let within = entry_holds (λ e. e.1 < length c.args.numbers.now) c.args.points.now c.loop-point.point-index c.point-item.result c.loop-point-test.true c.point-item.is c.requires in
    omega (arith, within, c.loop-point.invariant.0)

pub bounds-numbers-point : goal.bounds-numbers-point
bounds-numbers-point c =
    let within = entry_holds (λ e. e.1 < length c.args.numbers.now) c.args.points.now c.loop-point.point-index c.point-item.result c.loop-point-test.true c.point-item.is c.requires in
    omega (arith, within, c.loop-point.invariant.0)
