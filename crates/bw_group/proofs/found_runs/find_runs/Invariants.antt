use Rattle.std.specs.List.{AllByRecursion}
use Rattle.bw_group.specs.FoundRuns.{IsFoundRun}
use Rattle.bw_group.proofs.found_runs.find_runs.Given as goal

abbrev pub invariant-loop-part : goal.invariant-loop-part
invariant-loop-part g l = AllByRecursion (IsFoundRun l.tree l.points) l.runs.items
