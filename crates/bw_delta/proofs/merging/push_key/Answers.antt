use Rattle.std.proofs.Common.{◌≡◌, ◌++◌, [], drop, false, List, Option, ap, subst, ◌∙◌}
use Rattle.bw_key.specs.Order.{KeyBytes, key_eq}
use Rattle.std.specs.Option.{option_copied}
use Rattle.bw_model.specs.Values.{Pair, ValueBytes}
use Rattle.bw_delta.specs.Batches.{writes_to}
use Rattle.bw_delta.specs.History.{pointed_to}
use Rattle.bw_delta.specs.Merging.{after_writes, with_value, AreBehind, AreCutAt}
use Rattle.bw_delta.specs.Writes.{WriteView}
use Rattle.bw_delta.proofs.Merges.{sorted_rest, still_merging, same_values}
use Rattle.bw_delta.proofs.merging.push_key.Goals as goal

pub parted-before-requires : goal.parted-before-requires
parted-before-requires c = sorted_rest c.args.merged.now c.args.pairs.now c.requires.sorted

pub returns-clause-merging : goal.returns-clause-merging
returns-clause-merging c =
    let first : WriteView = c.args.first.now in
    let key = c.key-key.ensures in
    let cut = subst (λ (k : KeyBytes). AreCutAt c.args.pairs.now k c.parted-before.result.0 (option_copied c.parted-before.result.1) c.parted-before.result.2) key c.parted-before.ensures in
    let old = c.args.merged.now in
    let value = option_copied c.passed-count.result.0 in
    let others = pointed_to c.args.others.now in
    let behind = subst (λ (k : KeyBytes). AreBehind k (pointed_to (drop c.passed-count.result.1 c.args.others.now))) key c.passed-count.ensures.behind in
    let added : c.push_value.new.merged ≡ old ++ c.parted-before.result.0 ++ with_value first.key value [] =
    c.in_ok-push_value.ensures ∙ ap (λ (k : KeyBytes). c.extend.new.self ++ with_value k value []) key ∙ ap (λ (l : List Pair). l ++ with_value first.key value []) c.in_ok-extend.ensures.ok
    in
    still_merging old c.push_value.new.merged c.args.pairs.now c.parted-before.result.0 c.parted-before.result.2 first others (pointed_to (drop c.passed-count.result.1 c.args.others.now))
    (option_copied c.parted-before.result.1) value c.requires cut added behind

pub returns-clause-values : goal.returns-clause-values
returns-clause-values c q =
    let first : WriteView = c.args.first.now in
    let key = c.key-key.ensures in
    let cut = subst (λ (k : KeyBytes). AreCutAt c.args.pairs.now k c.parted-before.result.0 (option_copied c.parted-before.result.1) c.parted-before.result.2) key c.parted-before.ensures in
    let old = c.args.merged.now in
    let value = option_copied c.passed-count.result.0 in
    let others = pointed_to c.args.others.now in
    let behind = subst (λ (k : KeyBytes). AreBehind k (pointed_to (drop c.passed-count.result.1 c.args.others.now))) key c.passed-count.ensures.behind in
    let added : c.push_value.new.merged ≡ old ++ c.parted-before.result.0 ++ with_value first.key value [] =
    c.in_ok-push_value.ensures ∙ ap (λ (k : KeyBytes). c.extend.new.self ++ with_value k value []) key ∙ ap (λ (l : List Pair). l ++ with_value first.key value []) c.in_ok-extend.ensures.ok
    in
    let left = c.passed-count.ensures.value ∙ ap (λ (k : KeyBytes). after_writes (option_copied c.effect.result) (writes_to k others)) key
    ∙ ap (λ (v : Option ValueBytes). after_writes v (writes_to first.key others)) c.effect.ensures in
    let rest = subst (λ (k : KeyBytes). (q : KeyBytes) → key_eq q k ≡ false → writes_to q (pointed_to (drop c.passed-count.result.1 c.args.others.now)) ≡ writes_to q others) key c.passed-count.ensures.others in
    same_values old c.push_value.new.merged c.args.pairs.now c.parted-before.result.0 c.parted-before.result.2 first others (pointed_to (drop c.passed-count.result.1 c.args.others.now))
    (option_copied c.parted-before.result.1) value c.requires cut added behind left rest q
