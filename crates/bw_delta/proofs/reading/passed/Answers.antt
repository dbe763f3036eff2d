use Rattle.std.proofs.Common.{◌≡◌, ℕ, ◌<◌, ◌≤◌, ◌+◌, ◌-◌, List, length, length-drop, Option, refl, drop, sym, ap, subst, ◌∙◌, arith}
use Rattle.std.proofs.lemmas.List.{drop_all, take_all}
use Rattle.std.specs.Option.{option_copied}
use Rattle.bw_model.specs.Values.{ValueBytes}
use Rattle.bw_delta.specs.Writes.{WriteView}
use Rattle.bw_delta.specs.History.{history, action_at, pointed_to}
use Rattle.bw_delta.specs.Readings.{from_stamp}
use Rattle.bw_delta.proofs.Readings.{IsPassing, passes_first, passed_value, passed_all}
use Rattle.bw_delta.proofs.Orders.{next_write}
use Rattle.bw_delta.proofs.reading.passed.Goals as goal
use Rattle.bw_delta.proofs.reading.passed.Goals.{After-result-1}

pub loop-at-init : goal.loop-at-init
loop-at-init c = record { folding = record { from = 0; rising = c.requires; is = refl }; left = refl }

-- where the first of the rest has the stamp or a later one
ended : (c : After-result-1) → (option_copied c.loop-at.value ≡ history (option_copied c.args.start) (action_at (pointed_to c.args.writes.now)) c.args.stamp)
    × (pointed_to (drop c.loop-at.at c.args.writes.now) ≡ from_stamp c.args.stamp (pointed_to c.args.writes.now))
ended c =
    let start = option_copied c.args.start in
    let value = option_copied c.loop-at.value in
    let all = pointed_to c.args.writes.now in
    let later = pointed_to (drop (c.loop-at.at + 1) c.args.writes.now) in
    let next = next_write c.args.writes.now c.loop-at.at c.index-writes-at.result c.loop-at-test.true c.index-writes-at.is in
    let here = subst (λ (l : List WriteView). IsPassing c.args.stamp start all l value) next c.loop-at.invariant in
    let late = subst (λ (n : ℕ). c.args.stamp ≤ n) c.stamp.ensures c.if-stamp.true in
    let at_end = passed_value c.args.stamp start value all c.index-writes-at.result.now later late here in
    (at_end.0, next ∙ at_end.1)

pub returns-then-stamp-clause-value : goal.returns-then-stamp-clause-value
returns-then-stamp-clause-value c = (ended c).0

pub returns-then-stamp-clause-rest : goal.returns-then-stamp-clause-rest
returns-then-stamp-clause-rest c =
    let later = drop c.loop-at.at c.args.writes.now in
    let size = length-drop c.loop-at.at c.args.writes.now in
    ap pointed_to (take_all (length c.args.writes.now - c.loop-at.at) later (omega (arith, size))) ∙ (ended c).1

pub loop-at-preserved : goal.loop-at-preserved
loop-at-preserved c =
    let start = option_copied c.args.start in
    let value = option_copied c.loop-at.value in
    let all = pointed_to c.args.writes.now in
    let later = pointed_to (drop (c.loop-at.at + 1) c.args.writes.now) in
    let next = next_write c.args.writes.now c.loop-at.at c.index-writes-at.result c.loop-at-test.true c.index-writes-at.is in
    let here = subst (λ (l : List WriteView). IsPassing c.args.stamp start all l value) next c.loop-at.invariant in
    let early = subst (λ (n : ℕ). n < c.args.stamp) c.stamp.ensures c.if-stamp.false in
    let left = c.effect-value.ensures in
    subst (λ (v : Option ValueBytes). IsPassing c.args.stamp start all later v) (sym left)
    (passes_first c.args.stamp start value all c.index-writes-at.result.now later early here)

pub returns-clause-value : goal.returns-clause-value
returns-clause-value c =
    let refs = c.args.writes.now in
    (passed_all c.args.stamp (option_copied c.args.start) (option_copied c.loop-at.value) (pointed_to refs) _ (ap pointed_to (drop_all c.loop-at.at refs c.loop-at-test.false)) c.loop-at.invariant).0

pub returns-clause-rest : goal.returns-clause-rest
returns-clause-rest c =
    let refs = c.args.writes.now in
    let none = ap pointed_to (drop_all c.loop-at.at refs c.loop-at-test.false) in
    sym none ∙ (passed_all c.args.stamp (option_copied c.args.start) (option_copied c.loop-at.value) (pointed_to refs) _ none c.loop-at.invariant).1
