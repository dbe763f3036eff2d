use Rattle.std.proofs.Common.{◌≡◌, ◌<◌, ◌≤◌, ◌+◌, false, length}
use Rattle.std.specs.Io.KnownBytes.{Consumes}
use Rattle.bw_text.specs.Sources.{ReadsOn}
use Rattle.bw_text.proofs.LinesLemmas.{IsOneLine}
use Rattle.bw_text.proofs.sources.Source.read_line.Given as goal

abbrev pub invariant-loop : goal.invariant-loop
invariant-loop g l = record {
  one : IsOneLine l.line.items;
  count : length l.line.items ≡ l.counter;
  taken : Consumes l.fn.self.unread l.self.unread l.line.items;
  on : ReadsOn l.fn.self l.self;
  same : (l.self.place ≡ l.fn.self.place) × (l.self.fault ≡ l.fn.self.fault);
  paid : l.self.budget + l.counter ≤ l.fn.self.budget;
  ended : l.self.ended ≡ l.fn.self.ended;
  going : 0 < l.counter → l.self.ended ≡ false;
  none_failed : l.self.failures ≡ l.fn.self.failures;
}
