use Rattle.std.proofs.Common.{rules, arith, ◌≤◌}
use Rattle.bw_board.specs.declared.table.Sight.{Sight}
use Rattle.bw_board.proofs.Kept.{splits}
use Rattle.bw_board.proofs.Shown.{halves_idle}
use Rattle.bw_board.proofs.board.Board.split.Goals as goal

pub split_seat-other-requires : goal.split_seat-other-requires
split_seat-other-requires c = let v : Sight = c.seat.inside.place.me.0 in let i = c.seat.invariant in let wide : 2 ≤ v.book.width = (let e = i.width_is in omega arith) in
    (search rules, omega arith, splits _ _ _ _ _ _ _ i.live i.idle wide)

pub invariant_of-left : goal.invariant_of-left
invariant_of-left c = let e = c.split_seat-other.ensures in (halves_idle c.seat.inside.place.me _ _ c.seat.inside.width c.seat.inside.told c.seat.invariant (omega (arith, c.if-seat-lt2.false)) e.2 e.4).0

pub invariant_of-right : goal.invariant_of-right
invariant_of-right c = let e = c.split_seat-other.ensures in (halves_idle c.seat.inside.place.me _ _ c.seat.inside.width c.seat.inside.told c.seat.invariant (omega (arith, c.if-seat-lt2.false)) e.2 e.4).1
