use Rattle.bw_group.specs.Points.{entries_of}
use Rattle.bw_answer.proofs.GroupReads.{all_listed}
use Rattle.bw_answer.proofs.batch_reader.BatchReader.prefetch_runs.Goals as goal

pub run_from-page-requires-clause-pages : goal.run_from-page-requires-clause-pages
run_from-page-requires-clause-pages c = all_listed _ c.args.self.now c.self.view_is c.self.invariant (entries_of c.args.points.now) c.requires.entries
