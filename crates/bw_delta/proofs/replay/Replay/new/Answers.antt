use Rattle.std.proofs.Common.{ap, ◌∙◌}
use Rattle.bw_key.specs.Order.{key_eq}
use Rattle.bw_delta.specs.History.{history, action_at, pointed_to}
use Rattle.bw_delta.specs.Batches.{writes_to}
use Rattle.bw_delta.specs.PagePairs.{parts_of, value_in_parts}
use Rattle.bw_delta.proofs.Filters.{same_filtered}
use Rattle.bw_delta.proofs.Histories.{same_history}
use Rattle.bw_delta.proofs.replay.Replay.new.Goals as goal

pub returns-clause-replay : goal.returns-clause-replay
returns-clause-replay c = record {
  rising = c.in_ok-in_order.ensures.rising;
  values = λ key stamp below le.
      let given = pointed_to c.args.writes.now in
      let ordered = pointed_to c.in_ok-in_order.field-0.items in
      let base = value_in_parts (parts_of c.args.parts.now) key in
      ap (λ v. history v (action_at (writes_to key ordered)) stamp) (c.in_ok-of_parts.ensures key below)
      ∙ same_history base (action_at (writes_to key ordered)) (action_at (writes_to key given)) stamp (λ t lt. same_filtered (λ w. key_eq key w.key) given ordered t c.in_ok-in_order.ensures.same c.requires);
}
