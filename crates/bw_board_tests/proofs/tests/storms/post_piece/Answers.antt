use Rattle.std.proofs.Common.{arith, sym, subst, ◌∙◌, ◌≤◌}
use Rattle.bw_core.specs.World.{spans_have}
use Rattle.bw_board.proofs.WorkingLemmas.{left_posted}
use Rattle.bw_board_tests.proofs.tests.storms.post_piece.Goals as goal

pub loop-rec-preserved : goal.loop-rec-preserved
loop-rec-preserved g c = let i = c.loop-rec.invariant in let k = c.post_one.ensures in let p = k.posted in record {
  board = k.board;
  width = k.same.1 ∙ i.width;
  once = λ r. subst (λ z. spans_have r z ≤ 1) (sym k.same.0) (i.once r);
  left = left_posted c.loop-rec.seat c.post_one.new.seat c.loop-rec.rec c.args.to p.0 p.1 i.left (omega arith) k.same.0 p.2;
}
