use Rattle.std.proofs.Common.{◌+◌, true, false, List, drop, Option, sym, ap, subst, ◌∙◌}
use Rattle.std.specs.Option.{option_copied}
use Rattle.bw_key.specs.Order.{KeyBytes, key_eq}
use Rattle.bw_model.specs.Values.{ValueBytes}
use Rattle.bw_delta.specs.History.{pointed_to}
use Rattle.bw_delta.specs.Merging.{AreBehind}
use Rattle.bw_delta.specs.Writes.{WriteView}
use Rattle.bw_delta.proofs.Merges.{ArePassing, passes_one, stops_behind, stops_with, turned}
use Rattle.bw_delta.proofs.Orders.{next_write}
use Rattle.bw_delta.proofs.merging.passed.Goals as goal

pub returns-then-ne-clause-value : goal.returns-then-ne-clause-value
returns-then-ne-clause-value c =
    let key = c.args.key.now in
    let start = option_copied c.args.start in
    let value = option_copied c.loop-at.value in
    let all = pointed_to c.args.writes.now in
    let w = c.index-writes-at.result.now in
    let later = pointed_to (drop (c.loop-at.at + 1) c.args.writes.now) in
    let next = next_write c.args.writes.now c.loop-at.at c.index-writes-at.result c.loop-at-test.true c.index-writes-at.is in
    let here = subst (λ (l : List WriteView). ArePassing key start all l value) next c.loop-at.invariant in
    let other = ap (λ (k : KeyBytes). key_eq k key) (sym c.key.ensures) ∙ turned _ true (sym c.ne.ensures ∙ c.if-ne.true) in
    stops_with key start value all w later other here

pub returns-then-ne-clause-behind : goal.returns-then-ne-clause-behind
returns-then-ne-clause-behind c =
    let key = c.args.key.now in
    let start = option_copied c.args.start in
    let value = option_copied c.loop-at.value in
    let all = pointed_to c.args.writes.now in
    let w = c.index-writes-at.result.now in
    let later = pointed_to (drop (c.loop-at.at + 1) c.args.writes.now) in
    let next = next_write c.args.writes.now c.loop-at.at c.index-writes-at.result c.loop-at-test.true c.index-writes-at.is in
    let here = subst (λ (l : List WriteView). ArePassing key start all l value) next c.loop-at.invariant in
    let other = ap (λ (k : KeyBytes). key_eq k key) (sym c.key.ensures) ∙ turned _ true (sym c.ne.ensures ∙ c.if-ne.true) in
    subst (AreBehind key) (sym next) (stops_behind key start value all w later other here)

pub loop-at-preserved : goal.loop-at-preserved
loop-at-preserved c =
    let key = c.args.key.now in
    let start = option_copied c.args.start in
    let value = option_copied c.loop-at.value in
    let all = pointed_to c.args.writes.now in
    let w = c.index-writes-at.result.now in
    let later = pointed_to (drop (c.loop-at.at + 1) c.args.writes.now) in
    let next = next_write c.args.writes.now c.loop-at.at c.index-writes-at.result c.loop-at-test.true c.index-writes-at.is in
    let here = subst (λ (l : List WriteView). ArePassing key start all l value) next c.loop-at.invariant in
    let same = ap (λ (k : KeyBytes). key_eq k key) (sym c.key.ensures) ∙ turned _ false (sym c.ne.ensures ∙ c.if-ne.false) in
    let left = c.effect-value.ensures in
    subst (λ (v : Option ValueBytes). ArePassing key start all later v) (sym left) (passes_one key start value all w later same here)
