use Rattle.std.proofs.Common.{◌≤◌}
use Rattle.bw_level.specs.Searches.{IsSearching, level_at}
use Rattle.bw_level.proofs.RouteLemmas.{rank}
use Rattle.bw_look.proofs.look.Look.on_level.Given as goal

abbrev pub invariant-loop-next : goal.invariant-loop-next
invariant-loop-next l = record {
  searching : IsSearching l.self.slots l.self.levels l.target l.page;
  high : l.level ≤ level_at l.self.slots l.page;
}

abbrev pub decreases-loop-next : goal.decreases-loop-next
decreases-loop-next l = rank l.self.slots l.page
