use Rattle.std.proofs.Common.{rules, arith, ap, ◌∙◌}
use Rattle.bw_board.proofs.Kept.{joins}
use Rattle.bw_board.proofs.Shown.{join_shown}
use Rattle.bw_board.proofs.board.Board.join.Goals as goal

pub join_seat-requires : goal.join_seat-requires
join_seat-requires c = let i = c.seat.invariant in let o = c.other.invariant in (search rules, search rules, o.no_slots, omega arith, joins _ _ _ _ _ _ _ _ _ i.live o.live i.idle o.idle)

pub returns-clause-seen : goal.returns-clause-seen
returns-clause-seen c = (join_shown c.seat.inside.place.me.0 c.other.inside.place.me.0 c.settle.new.place.me.0 _ _ c.settle.ensures.sane (c.settle.ensures.same ∙ ap (λ m. m.0) c.join_seat.ensures.2)
    (ap (λ z. z.book) c.seat.view_is) (ap (λ z. z.book) c.other.view_is)).0

pub returns-clause-other_seen : goal.returns-clause-other_seen
returns-clause-other_seen c = (join_shown c.seat.inside.place.me.0 c.other.inside.place.me.0 c.settle.new.place.me.0 _ _ c.settle.ensures.sane (c.settle.ensures.same ∙ ap (λ m. m.0) c.join_seat.ensures.2)
    (ap (λ z. z.book) c.seat.view_is) (ap (λ z. z.book) c.other.view_is)).1

pub returns-clause-apart : goal.returns-clause-apart
returns-clause-apart c = (join_shown c.seat.inside.place.me.0 c.other.inside.place.me.0 c.settle.new.place.me.0 _ _ c.settle.ensures.sane (c.settle.ensures.same ∙ ap (λ m. m.0) c.join_seat.ensures.2)
    (ap (λ z. z.book) c.seat.view_is) (ap (λ z. z.book) c.other.view_is)).2
