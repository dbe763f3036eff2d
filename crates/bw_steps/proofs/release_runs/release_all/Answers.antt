use Rattle.std.proofs.Common.{arith}
use Rattle.bw_steps.proofs.FreedLemmas.{among_removed, freed_itself, freed_on, left_behind, none_behind}
use Rattle.bw_steps.proofs.release_runs.release_all.Goals as goal

pub loop-place-init : goal.loop-place-init
loop-place-init c = record {
  freed = freed_itself c.args.tree.now c.requires;
  left = among_removed c.args.tree.now c.in_ok-pages.pages.items c.know_records.ensures.stand c.in_ok-pages.ensures;
}

pub loop-place-preserved : goal.loop-place-preserved
loop-place-preserved c =
    let i = c.loop-place.invariant in
    record {
      freed = freed_on c.args.tree.now c.loop-place.tree c.release_run.new.tree i.freed c.in_ok-release_run.ensures.freed;
      left = left_behind c.loop-place.tree c.release_run.new.tree c.in_ok-pages.pages.items c.loop-place.place c.index.result.now c.index.ensures i.left c.in_ok-release_run.ensures.none;
    }

pub returns-in_err-release_run-clause-freed : goal.returns-in_err-release_run-clause-freed
returns-in_err-release_run-clause-freed c =
    freed_on c.args.tree.now c.loop-place.tree c.release_run.new.tree c.loop-place.invariant.freed c.in_err-release_run.ensures.freed

pub returns-clause-none : goal.returns-clause-none
returns-clause-none c =
    none_behind c.loop-place.tree c.in_ok-pages.pages.items c.loop-place.place (omega (arith, c.loop-place-test.false, c.len-place-end.ensures)) c.loop-place.invariant.left
