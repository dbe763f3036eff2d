use Rattle.std.specs.Prelude.{IfSome}
use Rattle.bw_level.specs.Searches.{IsSearching}
use Rattle.bw_level.proofs.RouteLemmas.{rank}
use Rattle.bw_look.specs.Routing.{IsInnerPage}
use Rattle.bw_look.proofs.look.Look.search_from.Given as goal

abbrev pub invariant-loop-next : goal.invariant-loop-next
invariant-loop-next l = record {
  searching : IsSearching l.self.slots l.self.levels l.target l.page;
  above : IfSome l.above (IsInnerPage l.self);
}

abbrev pub decreases-loop-next : goal.decreases-loop-next
decreases-loop-next l = rank l.self.slots l.page
