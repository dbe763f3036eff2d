use Rattle.std.proofs.Common.{◌≡◌, ◌≤◌, ◌<◌, ◌^◌, ◌+◌, [], true, length}
use Rattle.bw_text.specs.Sources.{ReadsOn}
use Rattle.bw_text.proofs.TracesLemmas.{HasGathered}
use Rattle.bw_text.proofs.sources.Source.gather.Given as goal

abbrev pub invariant-loop-line : goal.invariant-loop-line
invariant-loop-line g l = record {
  so_far : HasGathered l.fn.self.place l.fn.self.ended l.fn.self.unread l.self.unread l.ops.items l.self.place l.self.ended;
  over : l.fn.self.ended ≡ true → (l.self.ended ≡ true) × (l.ops.items ≡ []);
  on : ReadsOn l.fn.self l.self;
  fault : l.self.fault ≡ l.fn.self.fault;
  paid : l.self.budget + length l.ops.items ≤ l.fn.self.budget;
  room : l.self.place.lines + l.self.budget < 2 ^ 64;
  none_failed : l.self.failures ≡ l.fn.self.failures;
}

abbrev pub decreases-loop-line : goal.decreases-loop-line
decreases-loop-line g l = l.self.budget
