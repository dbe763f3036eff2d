use Rattle.std.proofs.Common.{◌≡◌, ◌+◌, ◌-◌, List, drop, length, length-drop, sym, ap, subst, ◌∙◌, take, arith}
use Rattle.std.proofs.lemmas.List.{take_all}
use Rattle.std.specs.Borrow.{Bor}
use Rattle.bw_key.specs.Order.{key_cmp}
use Rattle.bw_delta.specs.Writes.{WriteView}
use Rattle.bw_delta.specs.Batches.{writes_to}
use Rattle.bw_delta.specs.History.{history, action_at, pointed_to}
use Rattle.bw_delta.specs.Readings.{from_stamp}
use Rattle.bw_delta.specs.Replays.{ReplayView, replayed_value}
use Rattle.bw_delta.specs.Rising.{HasRisingStamps}
use Rattle.std.specs.FinMap.{find}
use Rattle.bw_delta.specs.Present.{present_pairs}
use Rattle.bw_delta.proofs.Batches.{from_lower}
use Rattle.bw_delta.proofs.Readings.{left_rises}
use Rattle.bw_delta.proofs.Replays.{drop_more, goes_on}
use Rattle.bw_delta.proofs.replay.Replay.advance.Goals as goal
use Rattle.bw_delta.proofs.replay.Replay.advance.Goals.{After-settle}

-- the writes that are left before
rest : (c : After-settle) → take (length c.deref.result.now - c.self.inside.passed) (drop c.self.inside.passed c.deref.result.now) ≡ drop c.self.inside.passed c.self.inside.writes.items
rest c =
    let size = length-drop c.self.inside.passed c.deref.result.now in
    take_all _ (drop c.self.inside.passed c.deref.result.now) (omega (arith, size)) ∙ ap (drop c.self.inside.passed) c.deref.ensures.value

left : (c : After-settle) → pointed_to (drop (c.self.inside.passed + c.in_ok-present.more) c.self.inside.writes.items) ≡ from_stamp c.args.stamp (pointed_to (drop c.self.inside.passed c.self.inside.writes.items))
left c =
    ap pointed_to (drop_more c.self.inside.passed c.in_ok-present.more c.self.inside.writes.items ∙ ap (drop c.in_ok-present.more) (sym (rest c)))
    ∙ c.in_ok-present.ensures.rest
    ∙ ap (λ (l : List (Bor WriteView)). from_stamp c.args.stamp (pointed_to l)) (rest c)

pub put_writes-requires : goal.put_writes-requires
put_writes-requires c =
    let passed = c.self.inside.passed in
    let all = c.deref.result.now in
    let left : take (length all - passed) (drop passed all) ≡ drop passed c.self.inside.writes.items =
    take_all _ (drop passed all) (omega (arith, length-drop passed all)) ∙ ap (drop passed) c.deref.ensures.value
    in
    subst (λ (l : List (Bor WriteView)). HasRisingStamps 0 (pointed_to l)) (sym left)
    (from_lower 0 c.self.inside.stamp (pointed_to (drop passed c.self.inside.writes.items)) (omega arith) c.self.invariant.1)

pub invariant_of-result : goal.invariant_of-result
invariant_of-result c = (
  omega (arith, c.in_ok-present.ensures.bound, ap length (rest c), length-drop c.self.inside.passed c.self.inside.writes.items, c.self.invariant.0),
  subst (HasRisingStamps c.args.stamp) (sym (left c)) (left_rises c.args.stamp c.self.inside.stamp (pointed_to (drop c.self.inside.passed c.self.inside.writes.items)) c.self.invariant.1),
)

pub returns-clause-replay : goal.returns-clause-replay
returns-clause-replay c start high writes so =
    goes_on start high writes c.args.self _ c.requires
    (λ key.
    ap (find key_cmp key) c.settle.ensures
    ∙ c.in_ok-present.ensures.values key
    ∙ ap (λ (l : List (Bor WriteView)). history (find key_cmp key (present_pairs c.self.inside.present)) (action_at (writes_to key (pointed_to l))) c.args.stamp) (rest c)
    ∙ ap (λ (v : ReplayView). replayed_value v c.args.stamp key) c.self.view_is)
    (left c ∙ ap (λ (v : ReplayView). from_stamp c.args.stamp v.rest) c.self.view_is)
    so
