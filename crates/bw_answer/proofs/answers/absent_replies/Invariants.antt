use Rattle.std.proofs.Common.{◌≡◌, replicate}
use Rattle.bw_model.specs.declared.operations.Reply.TheVariants.{Absent}
use Rattle.bw_answer.proofs.answers.absent_replies.Given as goal

abbrev pub invariant-loop : goal.invariant-loop
invariant-loop l = l.replies.items ≡ replicate l.counter Absent
