use Rattle.std.proofs.Common.{◌≡◌, ◌++◌, [], ◌∷◌, rules, subst, sym}
use Rattle.std.specs.List.{AllByRecursion}
use Rattle.bw_group.specs.FoundRuns.{IsFoundRun}
use Rattle.bw_group.specs.declared.found_runs.FoundRun.{FoundRun}
use Rattle.bw_group.proofs.ListParts.{all_append}
use Rattle.bw_group.proofs.found_runs.search_part.Goals as goal

pub loop-start-preserved : goal.loop-start-preserved
loop-start-preserved c =
    let is = IsFoundRun c.args.tree.now c.args.points.now in
    let run : FoundRun = c.find_run-run.result in
    let pushed : c.push.new.self.items ≡ c.loop-start.part.runs.items ++ run ∷ [] = search rules in
    record {
      found = subst (AllByRecursion is) (sym pushed) (all_append is c.loop-start.part.runs.items (run ∷ []) c.loop-start.invariant.found (c.find_run-run.ensures.found, tt));
      tree = c.find_run-run.ensures.tree;
    }
