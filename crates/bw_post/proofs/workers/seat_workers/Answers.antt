use Rattle.std.proofs.Common.{◌∙◌}
use Rattle.bw_post.proofs.Joined.{first_removed, same_width, some_more, split_new, split_width}
use Rattle.bw_post.proofs.workers.seat_workers.Goals as goal

pub loop-workers-preserved : goal.loop-workers-preserved
loop-workers-preserved c =
    let i = c.loop-workers.invariant in
    let parts = first_removed c.loop-workers.workers.items c.remove-seat.new.self.items c.remove-seat.result i.some c.remove-seat.ensures.value c.remove-seat.ensures.by_index.2 in
    let left = c.worker_at-in-Ok.ensures in
    let right = c.worker_at-in-Ok-2.ensures in
    record {
      some = some_more c.push-in-Ok.new.self.items c.push-in-Ok-2.new.self.items _ c.in_ok-push-in-Ok-2.ensures.items;
      new = split_new c.args.board.now c.loop-workers.workers.items c.remove-seat.new.self.items c.remove-seat.result parts c.push-in-Ok.new.self.items c.push-in-Ok-2.new.self.items _ _ c.in_ok-push-in-Ok.ensures.items c.in_ok-push-in-Ok-2.ensures.items (left.seat ∙ c.in-Ok.ensures.split.left_is) (right.seat ∙ c.in-Ok.ensures.split.right_is) (left.lost, left.folded) (right.lost, right.folded) i.new;
      width = split_width c.args.board.now c.loop-workers.workers.items c.remove-seat.new.self.items c.remove-seat.result parts c.push-in-Ok.new.self.items c.push-in-Ok-2.new.self.items _ _ c.in_ok-push-in-Ok.ensures.items c.in_ok-push-in-Ok-2.ensures.items (left.seat ∙ c.in-Ok.ensures.split.left_is) (right.seat ∙ c.in-Ok.ensures.split.right_is) ∙ i.width;
    }

pub returns-in-Err-clause-width : goal.returns-in-Err-clause-width
returns-in-Err-clause-width c =
    let i = c.loop-workers.invariant in
    let parts = first_removed c.loop-workers.workers.items c.remove-seat.new.self.items c.remove-seat.result i.some c.remove-seat.ensures.value c.remove-seat.ensures.by_index.2 in
    same_width c.args.board.now c.loop-workers.workers.items c.remove-seat.new.self.items c.remove-seat.result parts c.push-in-Err.new.self.items _ c.in_ok-push-in-Err.ensures.items (c.worker_at-in-Err.ensures.seat ∙ c.in-Err.ensures.back) ∙ i.width
