use Rattle.std.proofs.Common.{◌≡◌, ◌≤◌, ◌<◌, ◌^◌, ◌+◌, None}
use Rattle.bw_batch.specs.View.{contents_of, settings_of}
use Rattle.bw_text.specs.Sources.{ReadsOn}
use Rattle.bw_trace.proofs.RunningLemmas.{RunsTo}
use Rattle.bw_trace.proofs.jobs.run_trace.Given as goal

abbrev pub invariant-loop-index : goal.invariant-loop-index
invariant-loop-index g l = record {
  so_far : RunsTo l.fn.job l.fn.options.batch_max l.fn.source l.source (contents_of l.index) (g.W.Outlet.contents l.fn.out) (g.W.Outlet.contents l.out) l.summary;
  on : ReadsOn l.fn.source l.source;
  fault : l.fn.source.fault ≡ None → l.source.fault ≡ None;
  settings : settings_of l.index ≡ l.fn.options;
  room : l.summary.batches + l.source.budget < 2 ^ 64;
  fewer : (l.summary.long ≤ l.summary.batches) × (l.summary.memory ≤ l.summary.batches);
  none_failed : l.source.failures ≡ l.fn.source.failures;
  none_failed_out : g.W.Outlet.failures l.out ≡ g.W.Outlet.failures l.fn.out;
}

abbrev pub decreases-loop-index : goal.decreases-loop-index
decreases-loop-index g l = l.source.budget
