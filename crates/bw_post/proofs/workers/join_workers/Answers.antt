use Rattle.std.proofs.Common.{◌≡◌, ◌+◌, List, length, rules, ap, sym, subst, ◌∙◌, arith}
use Rattle.std.specs.List.{AllByRecursion}
use Rattle.bw_core.specs.World.{total}
use Rattle.bw_post.specs.Posting.{HasFinished, width_of}
use Rattle.bw_post.specs.declared.workers.Worker.{Worker}
use Rattle.bw_post.proofs.Joined.{all_joined, last_popped, last_width, no_width}
use Rattle.bw_post.proofs.workers.join_workers.Goals as goal

pub loop-worker-init : goal.loop-worker-init
loop-worker-init c =
    let all = last_popped (HasFinished c.args.tree.now c.args.homes.now.pages c.args.board.now) c.args.workers.items c.pop.new.self.items c.pop.result c.unwrap-whole.result c.pop.ensures.items c.unwrap-whole.ensures c.requires.finished in
    let rest = c.into_iter-worker-iterator.ensures.into_iter_gives.0 in
    record {
      finished = all.1;
      others = subst (AllByRecursion (HasFinished c.args.tree.now c.args.homes.now.pages c.args.board.now)) (sym rest) all.0;
      width = ap (λ (l : List Worker). width_of c.unwrap-whole.result + total width_of l) rest ∙ last_width c.args.workers.items c.pop.new.self.items c.pop.result c.unwrap-whole.result c.pop.ensures.items c.unwrap-whole.ensures;
    }

pub join_two-requires-clause-right : goal.join_two-requires-clause-right
join_two-requires-clause-right c =
    (all_joined c.args.tree.now c.args.homes.now.pages c.args.board.now c.loop-worker.worker-iterator.rest.items c.next.new.self.rest.items c.in-Some.worker c.in-Some.ensures.steps.0 c.loop-worker.invariant.others).0

pub loop-worker-preserved : goal.loop-worker-preserved
loop-worker-preserved c =
    let i = c.loop-worker.invariant in
    let next = all_joined c.args.tree.now c.args.homes.now.pages c.args.board.now c.loop-worker.worker-iterator.rest.items c.next.new.self.rest.items c.in-Some.worker c.in-Some.ensures.steps.0 i.others in
    record {
      finished = c.in_ok-whole.ensures.finished;
      others = next.1;
      width = omega (arith, i.width, c.in_ok-whole.ensures.width, ap (total width_of) c.in-Some.ensures.steps.0);
    }

pub returns-clause-width : goal.returns-clause-width
returns-clause-width c =
    let none : length c.loop-worker.worker-iterator.rest.items ≡ 0 = search rules in
    omega (arith, c.loop-worker.invariant.width, no_width c.loop-worker.worker-iterator.rest.items none)
