use Rattle.std.proofs.Common.{◌≡◌, List, Option, IfOk, ap, subst, ◌∙◌}
use Rattle.std.specs.Option.{option_copied}
use Rattle.bw_model.specs.Values.{ValueBytes}
use Rattle.bw_delta.specs.Writes.{WriteView}
use Rattle.bw_delta.specs.History.{history, action_at, pointed_to}
use Rattle.bw_delta.proofs.Orders.{same_reading}
use Rattle.bw_delta.proofs.reading.value_as_of.Goals as goal

pub returns : goal.returns
returns c =
    let start = option_copied c.args.start in
    let stamp = c.args.stamp in
    let writes = c.new-reading.ensures.rest ∙ ap pointed_to c.deref.ensures.value in
    let read = c.value.ensures ∙ c.advance.ensures.value
    ∙ ap (λ (v : Option ValueBytes). history v (action_at c.new-reading.result.rest) stamp) c.new-reading.ensures.value
    ∙ ap (λ (ws : List WriteView). history start (action_at ws) stamp) writes in
    let ordered = same_reading (pointed_to c.args.writes.now) (pointed_to c.in_ok-ordered.ordered.items) start (option_copied c.value.result) stamp c.in_ok-ordered.ensures.same c.requires read in
    subst (λ (v : Option ValueBytes). IfOk c.copied.result (λ value. value ≡ v)) ordered c.copied.ensures
