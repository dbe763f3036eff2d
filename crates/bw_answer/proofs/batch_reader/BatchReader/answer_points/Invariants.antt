use Rattle.std.proofs.Common.{◌-◌, length}
use Rattle.bw_answer.specs.Replies.{GoesOnTo}
use Rattle.bw_answer.proofs.ReplyLemmas.{AreAnsweredTo}
use Rattle.bw_answer.proofs.batch_reader.BatchReader.answer_points.Given as goal

abbrev pub invariant-loop-start : goal.invariant-loop-start
invariant-loop-start l = record {
  answered : AreAnsweredTo l.self l.points l.start l.fn.answers.items l.answers.items;
  findings : GoesOnTo l.self l.fn.findings l.findings;
}

abbrev pub decreases-loop-start : goal.decreases-loop-start
decreases-loop-start l = length l.points - l.start
