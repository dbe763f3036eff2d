use Rattle.std.proofs.Common.{arith, ap, ◌∙◌}
use Rattle.bw_board.proofs.WorkingLemmas.{left_next, left_over}
use Rattle.bw_post.proofs.Homes.{home_more}
use Rattle.bw_post.proofs.Lost.{lost_few, lost_more}
use Rattle.bw_post.proofs.workers.post_piece.Goals as goal

pub post-lost-requires-clause-own : goal.post-lost-requires-clause-own
post-lost-requires-clause-own g c = let i = c.loop-record.invariant in (left_next c.loop-record.seat c.loop-record.record c.args.piece.end i.once i.left (omega (arith, c.loop-record-test.true))).0

pub post-lost-requires-clause-unposted : goal.post-lost-requires-clause-unposted
post-lost-requires-clause-unposted g c = let i = c.loop-record.invariant in (left_next c.loop-record.seat c.loop-record.record c.args.piece.end i.once i.left (omega (arith, c.loop-record-test.true))).1

pub overflow_add-lost : goal.overflow_add-lost
overflow_add-lost g c =
    let i = c.loop-record.invariant in
    let t = c.post-lost.ensures.posted in
    let more = lost_more c.loop-record.seat c.post-lost.new.seat c.loop-record.record _ c.post-lost.result.lost t in
    let few = lost_few c.post-lost.new.seat c.args.board.now (ap (λ z. z.board) t.after ∙ i.board) c.requires.over.few c.post-lost.ensures.sound in
    omega (arith, i.lost, more, few.1)

pub loop-record-preserved : goal.loop-record-preserved
loop-record-preserved g c =
    let i = c.loop-record.invariant in
    let t = c.post-lost.ensures.posted in
    let more = lost_more c.loop-record.seat c.post-lost.new.seat c.loop-record.record _ c.post-lost.result.lost t in
    let few = lost_few c.post-lost.new.seat c.args.board.now (ap (λ z. z.board) t.after ∙ i.board) c.requires.over.few c.post-lost.ensures.sound in
    record {
      board = ap (λ z. z.board) t.after ∙ i.board;
      width = ap (λ z. z.book.width) t.after ∙ i.width;
      swaps = ap (λ z. z.book.swaps) t.after ∙ i.swaps;
      owned = ap (λ z. z.book.owned) t.after ∙ i.owned;
      once = c.post-lost.ensures.sound.own_once;
      left = left_over c.loop-record.seat c.post-lost.new.seat c.loop-record.record c.args.piece.end _ c.post-lost.result.lost i.left (omega (arith, c.loop-record-test.true)) t;
      homes = home_more c.args.tree.now c.args.homes.now.pages c.loop-record.seat c.post-lost.new.seat c.loop-record.record c.home_at-page.result c.post-lost.result.lost
          t c.home_at-page.ensures.home i.homes;
      lost = omega (arith, i.lost, more);
      few = few.1;
    }
