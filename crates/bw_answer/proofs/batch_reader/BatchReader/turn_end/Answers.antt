use Rattle.bw_group.specs.Points.{entries_of}
use Rattle.bw_answer.proofs.GroupReads.{all_listed}
use Rattle.bw_answer.proofs.batch_reader.BatchReader.turn_end.Goals as goal

pub run_from-end-requires-clause-pages : goal.run_from-end-requires-clause-pages
run_from-end-requires-clause-pages c = all_listed _ c.args.self.now c.self.view_is c.self.invariant (entries_of c.args.points.now) c.requires.points.entries
