use Rattle.std.proofs.Common.{◌∙◌}
use Rattle.bw_answer.proofs.PlacedFrom.{list_from}
use Rattle.bw_answer.proofs.answers.place_lists.Goals as goal

pub loop-list-preserved : goal.loop-list-preserved
loop-list-preserved c =
    let i = c.loop-list.invariant in
    let next = list_from (λ list. list.items) c.args.start c.loop-list.replies c.place_answers.new.replies c.loop-list.list-iterator.rest.items c.next.new.self.rest.items c.in-Some.list c.in-Some.ensures.steps.0 c.place_answers.ensures i.there in
    record { same = next.1 ∙ i.same; there = next.2 }
