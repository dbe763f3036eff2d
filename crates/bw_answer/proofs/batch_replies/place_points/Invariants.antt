use Rattle.std.proofs.Common.{◌≡◌, ◌-◌, ◌<◌, length, drop}
use Rattle.std.specs.List.{AllByRecursion}
use Rattle.bw_answer.specs.Replies.{GoesOnTo, answers_to, point_places}
use Rattle.bw_answer.specs.Sections.{with_answers_from}
use Rattle.bw_answer.proofs.batch_replies.place_points.Given as goal

abbrev pub invariant-loop-start : goal.invariant-loop-start
invariant-loop-start l = record {
  same : with_answers_from 0 l.replies (answers_to l.reader (point_places (drop l.start l.points))) ≡ with_answers_from 0 l.fn.replies (answers_to l.reader (point_places l.points));
  within : AllByRecursion (λ place. place < length l.replies) (point_places (drop l.start l.points));
  findings : GoesOnTo l.reader l.fn.findings l.findings;
}

abbrev pub decreases-loop-start : goal.decreases-loop-start
decreases-loop-start l = length l.points - l.start
