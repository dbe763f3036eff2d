use Rattle.std.proofs.Common.{rules, sym, ap, subst, ◌∙◌, ◌≡◌, ◌+◌, min, true}
use Rattle.bw_core.specs.Events.{book_without_pieces}
use Rattle.bw_board.specs.Public.{SeatView, AllClaimed, seat_view, seat_after_claim}
use Rattle.bw_board.proofs.Claimed.{all_claimed, piece_free, piece_alone, sound_shown}
use Rattle.bw_board.proofs.board.Board.claim.Goals as goal

pub returns-then-seat-clause-all : goal.returns-then-seat-clause-all
returns-then-seat-clause-all c = let i = c.seat.invariant in subst AllClaimed c.seat.view_is (all_claimed _ i.sane.moment (sym i.told_is ∙ c.if-seat.true))

pub returns-else-from-self-clause-all : goal.returns-else-from-self-clause-all
returns-else-from-self-clause-all c = let w : SeatView = seat_view c.claim-from.new.place.table_id c.claim-from.new.place.me.0 in
    let told : w ≡ record c.args.seat.now { book = book_without_pieces c.args.seat.now.book } = search rules in
    all_claimed w c.claim-from.ensures.sane.moment (ap (λ (v : SeatView). v.book.told) told)

pub returns-after-left-self-clause-free : goal.returns-after-left-self-clause-free
returns-after-left-self-clause-free c = let w : SeatView = seat_view c.claim-from.new.place.table_id c.claim-from.new.place.me.0 in
    let is : w ≡ seat_after_claim c.args.seat.now c.claim-from.result = search rules in
    let end : c.if-left-self.to ≡ min (c.claim-from.result + c.args.self.now.piece) c.args.self.now.records = search rules in
    piece_free c.args.seat.now w c.claim-from.result c.if-left-self.to is (end ∙ ap (λ z. min (c.claim-from.result + z.piece) z.records) (sym c.requires.board)) (sound_shown _ _ c.claim-from.ensures.sane)

pub returns-after-left-self-clause-alone : goal.returns-after-left-self-clause-alone
returns-after-left-self-clause-alone c = let w : SeatView = seat_view c.claim-from.new.place.table_id c.claim-from.new.place.me.0 in
    let is : w ≡ seat_after_claim c.args.seat.now c.claim-from.result = search rules in
    let end : c.if-left-self.to ≡ min (c.claim-from.result + c.args.self.now.piece) c.args.self.now.records = search rules in
    piece_alone c.args.seat.now w c.claim-from.result c.if-left-self.to is (end ∙ ap (λ z. min (c.claim-from.result + z.piece) z.records) (sym c.requires.board)) (sound_shown _ _ c.claim-from.ensures.sane) c.claim-from.ensures.sane.moment
