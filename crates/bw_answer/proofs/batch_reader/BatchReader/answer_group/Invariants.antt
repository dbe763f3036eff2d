use Rattle.std.specs.Option.{option_copied}
use Rattle.bw_delta.specs.History.{pointed_to}
use Rattle.bw_group.specs.Points.{entries_of}
use Rattle.bw_answer.proofs.ReplyLemmas.{IsAnswering}
use Rattle.bw_answer.proofs.batch_reader.BatchReader.answer_group.Given as goal

abbrev pub invariant-loop-point : goal.invariant-loop-point
invariant-loop-point l = IsAnswering l.self (option_copied l.start) (pointed_to l.writes) (entries_of l.points) l.point-index l.fn.answers.items l.answers.items l.reading.stamp l.reading.value l.reading.rest
