use Rattle.std.proofs.Common.{◌+◌, ◌||◌, refl, ap, ◌∙◌, arith}
use Rattle.bw_board.specs.Public.{SeatView}
use Rattle.bw_post.specs.declared.workers.Worker.{Worker}
use Rattle.bw_post.proofs.Joined.{lost_together, worked_both}
use Rattle.bw_post.proofs.workers.join_two.Goals as goal

pub overflow_add-result : goal.overflow_add-result
overflow_add-result c =
    let fits = lost_together c.args.tree.now c.args.homes.now.pages c.args.board.now c.args.left c.args.right c.join.result c.requires.over c.requires.left.worked c.requires.right.worked c.join.ensures.joined c.join.ensures.sound in
    omega (arith, fits)

pub returns-clause-finished : goal.returns-clause-finished
returns-clause-finished c =
    let both : Worker = record { seat = c.join.result; lost = c.args.left.lost + c.args.right.lost; folded = c.append.new.self } in
    record {
      worked = worked_both c.args.tree.now c.args.homes.now.pages c.args.board.now c.args.left c.args.right both c.requires.left.worked c.requires.right.worked c.join.ensures.joined refl c.in_ok-append.ensures.items;
      told = ap (λ (v : SeatView). v.book.told) c.join.ensures.joined ∙ ap (λ b. b || c.args.right.seat.book.told) c.requires.left.told;
    }
