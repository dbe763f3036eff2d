use Rattle.std.proofs.Common.{◌≡◌, ◌≤◌, take, length, vec_len, vec_capacity}
use Rattle.bw_batch.specs.View.{contents_of, settings_of}
use Rattle.bw_batch.specs.Outcomes.{batches_of, outcomes_of, AreCounted, ChangesInTurn}
use Rattle.bw_model.specs.Runs.{AnswersInTurn, left_in_turn}
use Rattle.bw_batch.proofs.index.Index.run_all.Given as goal

abbrev pub invariant-loop-ops : goal.invariant-loop-ops
invariant-loop-ops g l = record {
  told : AnswersInTurn (settings_of l.fn.self).batch_max (batches_of (take l.ops-index l.batches)) (contents_of l.fn.self) (outcomes_of l.outcomes.items);
  left : contents_of l.self ≡ left_in_turn (batches_of (take l.ops-index l.batches)) (contents_of l.fn.self) (outcomes_of l.outcomes.items);
  settings : settings_of l.self ≡ settings_of l.fn.self;
  room : length l.batches ≤ vec_capacity l.outcomes;
  count : vec_len l.outcomes ≡ l.ops-index;
  changes : ChangesInTurn l.fn.self l.self (batches_of (take l.ops-index l.batches)) l.outcomes.items;
  besides : AreCounted (settings_of l.fn.self) (batches_of (take l.ops-index l.batches)) l.outcomes.items;
}
