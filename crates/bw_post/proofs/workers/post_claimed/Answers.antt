use Rattle.std.proofs.Common.{refl, ap, sym, ◌∙◌, ◌≡◌, ◌+◌, arith, min}
use Rattle.bw_core.specs.Events.{book_after_claim}
use Rattle.bw_board.specs.Plays.{lost_in}
use Rattle.bw_board.specs.Public.{SeatView}
use Rattle.bw_board.proofs.WorkingLemmas.{left_claimed}
use Rattle.bw_post.proofs.OwnedCounts.{owned_more}
use Rattle.bw_post.proofs.Homes.{same_home}
use Rattle.bw_post.proofs.Joined.{fresh_worked, same_folded, told_worked}
use Rattle.bw_post.proofs.workers.post_claimed.Goals as goal

pub loop-span-init : goal.loop-span-init
loop-span-init g c = record { worked = fresh_worked c.args.tree.now c.args.homes.now.pages c.args.board.now c.args.worker.now c.requires.fresh; width = refl; few = omega (arith, ap lost_in c.requires.fresh.posted) }

pub post_piece-requires-clause-left : goal.post_piece-requires-clause-left
post_piece-requires-clause-left g c κs within =
    let t = c.in-Some.ensures in
    left_claimed c.loop-span.worker.seat c.claim.new.seat c.in-Some.span.start c.in-Some.span.end c.loop-span.invariant.worked.posted t.claimed
    (t.end ∙ ap (λ z. min (c.in-Some.span.start + z.piece) z.records) (sym c.loop-span.invariant.worked.board_is))

pub post_piece-requires-clause-homes : goal.post_piece-requires-clause-homes
post_piece-requires-clause-homes g c κs within = same_home c.args.tree.now c.args.homes.now.pages c.loop-span.worker.seat c.claim.new.seat (ap (λ (v : SeatView). v.book.posted) c.in-Some.ensures.claimed) c.loop-span.invariant.worked.homes

pub post_piece-requires-clause-few : goal.post_piece-requires-clause-few
post_piece-requires-clause-few g c κs within = omega (arith, ap (λ (v : SeatView). lost_in v.book.posted) c.in-Some.ensures.claimed, c.loop-span.invariant.few)

pub loop-span-preserved : goal.loop-span-preserved
loop-span-preserved g c =
    let i = c.loop-span.invariant in
    let e = c.post_piece.ensures in
    let t = c.in-Some.ensures.claimed in
    record {
      worked = record {
        board_is = e.board;
        posted = e.posted;
        homes = e.homes;
        lost = omega (arith, i.worked.lost, ap (λ (v : SeatView). lost_in v.book.posted) t, e.lost);
        folded = same_folded c.args.tree.now c.args.homes.now.pages c.args.board.now c.loop-span.worker c.post_piece.new.seat (e.swaps ∙ ap (λ (v : SeatView). v.book.swaps) t) i.worked.folded;
      };
      width = e.width ∙ ap (λ (v : SeatView). v.book.width) t ∙ i.width;
      few = e.few;
    }

pub loop-span-smaller : goal.loop-span-smaller
loop-span-smaller g c =
    let t = c.in-Some.ensures in
    let board : c.loop-span.worker.seat.board ≡ c.args.board.now = c.loop-span.invariant.worked.board_is in
    owned_more c.args.board.now.piece c.args.board.now.records c.in-Some.span.start c.loop-span.worker.seat.book c.post_piece.new.seat.book t.within (omega (arith, t.some, t.end))
    (c.post_piece.ensures.owned ∙ ap (λ (v : SeatView). v.book.owned) t.claimed ∙ ap (λ z. (book_after_claim z.piece z.records c.in-Some.span.start c.loop-span.worker.seat.book).owned) board) c.post_piece.ensures.once

pub returns-clause-finished : goal.returns-clause-finished
returns-clause-finished g c = record {
  worked = told_worked c.args.tree.now c.args.homes.now.pages c.args.board.now c.loop-span.worker c.claim.new.seat c.in_default.ensures.none c.loop-span.invariant.worked;
  told = ap (λ (v : SeatView). v.book.told) c.in_default.ensures.none;
}
