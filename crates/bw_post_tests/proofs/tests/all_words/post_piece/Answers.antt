use Rattle.std.proofs.Common.{arith, ap, ◌∙◌}
use Rattle.bw_board.proofs.WorkingLemmas.{left_next, left_over}
use Rattle.bw_post_tests.proofs.tests.all_words.post_piece.Goals as goal

pub post-requires-clause-own : goal.post-requires-clause-own
post-requires-clause-own c = let i = c.loop-rec.invariant in (left_next c.loop-rec.seat c.loop-rec.rec c.args.to i.once i.left (omega arith)).0

pub post-requires-clause-unposted : goal.post-requires-clause-unposted
post-requires-clause-unposted c = let i = c.loop-rec.invariant in (left_next c.loop-rec.seat c.loop-rec.rec c.args.to i.once i.left (omega arith)).1

pub loop-rec-preserved : goal.loop-rec-preserved
loop-rec-preserved c = let i = c.loop-rec.invariant in let t = c.post.ensures.posted in record {
  board = ap (λ z. z.board) t.after ∙ i.board;
  width = ap (λ z. z.book.width) t.after ∙ i.width;
  once = c.post.ensures.sound.own_once;
  left = left_over c.loop-rec.seat c.post.new.seat c.loop-rec.rec c.args.to _ c.post.result.lost i.left (omega arith) t;
}
