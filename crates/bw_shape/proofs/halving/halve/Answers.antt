use Rattle.std.proofs.Common.{arith}
use Rattle.bw_steps.proofs.TakenLemmas.{taken_few}
use Rattle.bw_shape.proofs.TidyLemmas.{within_split}
use Rattle.bw_shape.proofs.halving.halve.Goals as goal

pub returns-clause-within : goal.returns-clause-within
returns-clause-within c =
    within_split c.args.tree.now c.split_next.new.tree c.args.due.now.pages c.split_next.new.self.pages c.args.page c.args.keep c.requires.page c.in_ok-split_next.ensures.ok

pub returns-clause-ok : goal.returns-clause-ok
returns-clause-ok c = record {
  able = c.requires.page;
  split = c.in_ok-split_next.ensures.ok;
  few = omega (arith, taken_few c.split_next.new.tree.slots, c.know_records.ensures.slots, c.know_records.ensures.few);
}
