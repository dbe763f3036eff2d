use Rattle.std.proofs.Common.{◌-◌, ◌≡◌}
use Rattle.bw_group.specs.FoundRuns.{AreFoundIn}
use Rattle.bw_group.proofs.found_runs.search_part.Given as goal

abbrev pub invariant-loop-start : goal.invariant-loop-start
invariant-loop-start l = record {
  found : AreFoundIn l.tree l.points l.part;
  tree : l.routes.tree ≡ l.tree;
}

abbrev pub decreases-loop-start : goal.decreases-loop-start
decreases-loop-start l = l.stop - l.start
